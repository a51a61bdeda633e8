-- Those before have other names.
use Rattle.std.proofs.Common.{◌≡◌, drop}
use Rattle.std.specs.List.{list_any}
use Rattle.json_forms.specs.Told.{name_is}
use Rattle.json_inputs.proofs.forms.has_form.Given as goal

abbrev pub invariant-loop-form : goal.invariant-loop-form
invariant-loop-form l = list_any (name_is l.name) l.known ≡ list_any (name_is l.name) (drop l.form-index l.known)
