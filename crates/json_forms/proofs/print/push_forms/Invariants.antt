-- Those before are written; those left are still to come.
use Rattle.std.proofs.Common.{◌≡◌, ◌++◌, drop, flat_map, string_bytes}
use Rattle.json_forms.specs.Print.{form_text}
use Rattle.json_forms.proofs.print.push_forms.Given as goal

abbrev pub invariant-loop-form : goal.invariant-loop-form
invariant-loop-form l = string_bytes l.initial.out ++ flat_map form_text l.forms ≡ string_bytes l.out ++ flat_map form_text (drop l.form-index l.forms)
