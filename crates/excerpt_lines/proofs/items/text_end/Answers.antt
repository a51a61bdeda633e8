-- A text ends before the first gap.
use Rattle.std.proofs.Common.{◌<◌, length, sym, ◌∙◌}
use Rattle.excerpt_lines.proofs.TextLemmas.{gap_inside, text_begins, text_ends, text_goes_on, text_stops}
use Rattle.excerpt_lines.proofs.items.text_end.Goals as goal

pub loop-end-init : goal.loop-end-init
loop-end-init c = text_begins _ _ _ _ c.requires.within c.requires.ink c.run_from-end.ensures.from c.run_from-end.ensures.within c.run_from-end.ensures.each c.run_from-end.ensures.stops

pub returns-then-is_gap : goal.returns-then-is_gap
returns-then-is_gap c = text_stops _ _ _ _ c.loop-end.invariant c.loop-end-test.true (sym c.is_gap.ensures ∙ c.if-is_gap.true)

pub loop-end-preserved : goal.loop-end-preserved
loop-end-preserved c =
    let inside : c.run_from-next.result < length c.args.line.now = gap_inside _ _ _ _ c.run_from-next.ensures.value (sym c.is_gap.ensures ∙ c.if-is_gap.false) c.run_from-next.ensures.within in
    let next = c.run_from-end-in-loop-end.ensures in
    text_goes_on _ _ _ _ _ _ c.loop-end.invariant c.loop-end-test.true c.run_from-next.ensures.from c.run_from-next.ensures.each inside (c.run_from-next.ensures.stops inside)
    (sym c.is_gap.ensures ∙ c.if-is_gap.false) next.from next.within next.each next.stops

pub returns : goal.returns
returns c = text_ends _ _ _ _ c.loop-end.invariant c.loop-end-test.false
