use Rattle.std.proofs.Common.{◌≡◌, ◌++◌, map, length}
use Rattle.excerpt_texts.specs.Lines.{line_parts, own_parts, said_from}
use Rattle.excerpt_texts.specs.declared.lines.Use.TheVariants.{InHelp}
use Rattle.excerpt_texts.proofs.lines.lines_of.Given as goal

abbrev pub invariant-loop-rest : goal.invariant-loop-rest
invariant-loop-rest l = let lines = map (λ line. line.now) l.lines in
    map line_parts l.all.items ++ said_from (own_parts l.own) lines l.indent l.to l.flags_left l.rest ≡ said_from (own_parts l.own) lines l.indent InHelp l.flags l.parts

abbrev pub decreases-loop-rest : goal.decreases-loop-rest
decreases-loop-rest l = length l.rest
