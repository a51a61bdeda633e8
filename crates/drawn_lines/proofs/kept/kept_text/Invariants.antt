-- The pieces before are there, and the others come next.
use Rattle.std.proofs.Common.{◌≡◌, ◌++◌, length, map, string_bytes}
use Rattle.tool_lines.specs.Lines.{piece_parts}
use Rattle.drawn_lines.specs.Lines.{kept_text}
use Rattle.drawn_lines.proofs.kept.kept_text.Given as goal

abbrev pub invariant-loop-rest : goal.invariant-loop-rest
invariant-loop-rest l =
    string_bytes l.so_far.text ++ kept_text l.asked (map (λ line. line.now) l.so_far.left.now) (map piece_parts l.rest)
    ≡ kept_text l.asked (map (λ line. line.now) l.lines) (map piece_parts l.initial.rest)

abbrev pub decreases-loop-rest : goal.decreases-loop-rest
decreases-loop-rest l = length l.rest
