-- Those before are written; those left are still to come.
use Rattle.std.proofs.Common.{◌≡◌, ◌++◌, drop, flat_map, string_bytes}
use Rattle.json_forms.specs.Print.{list_text}
use Rattle.json_forms.proofs.print.push_form.Given as goal

abbrev pub invariant-loop-list : goal.invariant-loop-list
invariant-loop-list l = string_bytes l.initial.out ++ flat_map list_text l.list-items ≡ string_bytes l.out ++ flat_map list_text (drop l.list-index l.list-items)
