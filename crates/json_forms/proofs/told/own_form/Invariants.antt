-- Those before lead to nothing.
use Rattle.std.proofs.Common.{◌≡◌, drop, find}
use Rattle.json.specs.Value.{value_view}
use Rattle.json_forms.specs.Told.{first_lead}
use Rattle.json_forms.proofs.told.own_form.Given as goal

abbrev pub invariant-loop-form : goal.invariant-loop-form
invariant-loop-form l = find (first_lead (value_view l.value)) l.forms ≡ find (first_lead (value_view l.value)) (drop l.form-index l.forms)
