use Rattle.std.proofs.Common.{◌++◌, List, None, length, map}
use Rattle.std.specs.Option.{option_copied}
use Rattle.line_shapes.specs.Shape.{shape_parts}
use Rattle.tool_lines.specs.Lines.{ArePieces, PieceParts, piece_parts}
use Rattle.tool_lines.proofs.lines.pieces_of.Given as goal

abbrev pub invariant-loop-rest : goal.invariant-loop-rest
invariant-loop-rest l =
    (more : List PieceParts) → ArePieces (map shape_parts l.shapes) (option_copied l.name) (map (λ line. line.now) l.rest) more → ArePieces (map shape_parts l.shapes) None (map (λ line. line.now) l.lines) (map piece_parts l.pieces.items ++ more)

abbrev pub decreases-loop-rest : goal.decreases-loop-rest
decreases-loop-rest l = length l.rest
