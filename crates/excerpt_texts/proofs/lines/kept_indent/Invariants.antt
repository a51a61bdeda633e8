use Rattle.std.proofs.Common.{◌≡◌, None, map, length}
use Rattle.excerpt_texts.specs.Lines.{parts_indent}
use Rattle.excerpt_texts.proofs.lines.kept_indent.Given as goal

abbrev pub invariant-loop-parts : goal.invariant-loop-parts
invariant-loop-parts l = let lines = map (λ line. line.now) l.lines in parts_indent lines l.least l.parts ≡ parts_indent lines None l.initial.parts

abbrev pub decreases-loop-parts : goal.decreases-loop-parts
decreases-loop-parts l = length l.parts
