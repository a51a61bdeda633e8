use Rattle.std.proofs.Common.{◌≡◌, ◌++◌, map, length}
use Rattle.tool_lines.specs.Lines.{piece_parts}
use Rattle.line_reports.specs.Pieces.{read_parts}
use Rattle.line_reports.proofs.PieceLemmas.{ReadSoFar}
use Rattle.line_reports.proofs.pieces.read_pieces.Given as goal

abbrev pub invariant-loop-rest : goal.invariant-loop-rest
invariant-loop-rest l = record {
  pieces : map (λ it. it.piece) (map read_parts l.read.items) ++ map piece_parts l.rest ≡ map piece_parts l.pieces;
  read : ReadSoFar (map (λ line. line.now) l.lines) (map (λ line. line.now) l.left) (map read_parts l.read.items);
}

abbrev pub decreases-loop-rest : goal.decreases-loop-rest
decreases-loop-rest l = length l.rest
