use Rattle.std.proofs.Common.{◌≡◌, ◌++◌, map, length}
use Rattle.excerpt_texts.specs.Lines.{inked, kept, line_parts}
use Rattle.excerpt_texts.proofs.lines.kept_lines.Given as goal

abbrev pub invariant-loop-rest : goal.invariant-loop-rest
invariant-loop-rest l =
    map line_parts l.all.items ++ map (kept l.indent) (inked (map (λ line. line.now) l.rest)) ≡ map (kept l.indent) (inked (map (λ line. line.now) l.lines))

abbrev pub decreases-loop-rest : goal.decreases-loop-rest
decreases-loop-rest l = length l.rest
