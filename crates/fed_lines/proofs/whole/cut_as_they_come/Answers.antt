use Rattle.std.proofs.Common.{map, sym, subst}
use Rattle.fed_lines.specs.Held.{held_lines, held_name}
use Rattle.fed_lines.specs.Feed.{AreCut, IsFed}
use Rattle.fed_lines.proofs.whole.cut_as_they_come.Goals as goal

pub returns : goal.returns
returns c =
    subst (λ shapes. AreCut shapes (map (λ line. line.now) c.args.lines.now) c.give_last.new.cuts.items) c.in_ok-held.ensures.shapes
    (c.in_ok-give_last.ensures (map (λ line. line.now) c.args.lines.now)
    (subst (λ shapes. IsFed shapes (map (λ line. line.now) c.args.lines.now) c.in_ok-held.cuts.items (held_name c.in_ok-held.held) (held_lines c.in_ok-held.held)) (sym c.in_ok-held.ensures.shapes) c.in_ok-held.ensures.first))
