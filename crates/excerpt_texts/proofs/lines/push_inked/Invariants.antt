use Rattle.std.proofs.Common.{◌≡◌, ◌++◌, map, length}
use Rattle.excerpt_texts.specs.Lines.{inked, line_parts, said}
use Rattle.excerpt_texts.proofs.lines.push_inked.Given as goal

abbrev pub invariant-loop-lines : goal.invariant-loop-lines
invariant-loop-lines l =
    map line_parts l.all.items ++ map (said l.to) (inked (map (λ line. line.now) l.lines)) ≡ map line_parts l.initial.all.items ++ map (said l.to) (inked (map (λ line. line.now) l.initial.lines))

abbrev pub decreases-loop-lines : goal.decreases-loop-lines
decreases-loop-lines l = length l.lines
