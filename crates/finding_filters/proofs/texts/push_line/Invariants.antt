use Rattle.std.proofs.Common.{◌≡◌, ◌++◌, drop}
use Rattle.std.specs.List.{flat_map}
use Rattle.finding_filters.specs.Texts.{on_line}
use Rattle.finding_filters.proofs.texts.push_line.Given as goal

-- the bytes that are left come next
abbrev pub invariant-loop-byte : goal.invariant-loop-byte
invariant-loop-byte l = l.out.items ++ flat_map on_line (drop l.byte-index l.text) ≡ l.initial.out.items ++ flat_map on_line l.text
