-- The pieces before are walked.
use Rattle.std.proofs.Common.{◌≡◌, length, map, take, drop}
use Rattle.tool_lines.specs.Lines.{piece_parts}
use Rattle.drawn_lines.specs.Seam.{IsSought, span}
use Rattle.drawn_lines.proofs.seam.gap_in.Given as goal

abbrev pub invariant-loop-piece : goal.invariant-loop-piece
invariant-loop-piece l =
    (l.at ≡ l.piece-index) × (map (λ line. line.now) l.left ≡ drop (span (take l.piece-index (map piece_parts l.pieces))) (map (λ line. line.now) l.lines))
    × IsSought (map (λ line. line.now) l.lines) (map piece_parts l.pieces) (length l.lines) l.piece-index l.sought
