-- Those before are written; those left are still to come.
use Rattle.std.proofs.Common.{◌≡◌, ◌++◌, drop, flat_map, string_bytes}
use Rattle.json_forms.specs.Print.{side_text}
use Rattle.json_forms.proofs.print.push_list.Given as goal

abbrev pub invariant-loop-side : goal.invariant-loop-side
invariant-loop-side l = string_bytes l.initial.out ++ flat_map side_text l.side-items ≡ string_bytes l.out ++ flat_map side_text (drop l.side-index l.side-items)
