use Rattle.std.proofs.Common.{◌≡◌, ◌++◌, map, length}
use Rattle.tool_lines.specs.Lines.{piece_parts}
use Rattle.drawn_lines.specs.Named.{name_texts, renamed_by}
use Rattle.drawn_lines.proofs.naming.renamed.Given as goal

-- the pieces that are left come next
abbrev pub invariant-loop-names : goal.invariant-loop-names
invariant-loop-names l =
    map piece_parts l.all.items ++ renamed_by (name_texts l.names) (map piece_parts l.rest) ≡ renamed_by (name_texts l.fn.names) (map piece_parts l.pieces)

abbrev pub decreases-loop-names : goal.decreases-loop-names
decreases-loop-names l = length l.names
