use Rattle.std.proofs.Common.{◌≡◌, ◌++◌, map, length, true}
use Rattle.excerpt_texts.specs.Lines.{drawings_from, own_parts}
use Rattle.excerpt_texts.proofs.lines.drawings.Given as goal

abbrev pub invariant-loop-rest : goal.invariant-loop-rest
invariant-loop-rest l = let lines = map (λ line. line.now) l.lines in
    l.flags.items ++ drawings_from (own_parts l.own) lines l.here l.rest ≡ drawings_from (own_parts l.own) lines true l.parts

abbrev pub decreases-loop-rest : goal.decreases-loop-rest
decreases-loop-rest l = length l.rest
