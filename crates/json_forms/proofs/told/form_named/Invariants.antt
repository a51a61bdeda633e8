-- Those before have other names.
use Rattle.std.proofs.Common.{◌≡◌, drop, find}
use Rattle.json_forms.specs.Told.{name_is}
use Rattle.json_forms.proofs.told.form_named.Given as goal

abbrev pub invariant-loop-form : goal.invariant-loop-form
invariant-loop-form l = find (name_is l.name) l.forms ≡ find (name_is l.name) (drop l.form-index l.forms)
