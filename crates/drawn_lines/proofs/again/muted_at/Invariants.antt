use Rattle.std.proofs.Common.{◌≡◌, ◌++◌, map, length}
use Rattle.tool_lines.specs.Lines.{piece_parts}
use Rattle.drawn_lines.specs.Again.{muted_at}
use Rattle.drawn_lines.proofs.again.muted_at.Given as goal

-- the pieces that are left come next
abbrev pub invariant-loop-flags : goal.invariant-loop-flags
invariant-loop-flags l =
    map piece_parts l.all.items ++ muted_at l.which l.flags (map piece_parts l.rest) ≡ muted_at l.which l.fn.flags (map piece_parts l.pieces)

abbrev pub decreases-loop-flags : goal.decreases-loop-flags
decreases-loop-flags l = length l.flags
