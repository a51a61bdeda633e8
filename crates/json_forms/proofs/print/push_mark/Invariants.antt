-- Those before are written; those left are still to come.
use Rattle.std.proofs.Common.{◌≡◌, ◌++◌, drop, flat_map, string_bytes}
use Rattle.json_forms.specs.Print.{mark_text}
use Rattle.json_forms.proofs.print.push_mark.Given as goal

abbrev pub invariant-loop-row : goal.invariant-loop-row
invariant-loop-row l = string_bytes l.initial.out ++ flat_map mark_text l.mark ≡ string_bytes l.out ++ flat_map mark_text (drop l.row-index l.mark)
