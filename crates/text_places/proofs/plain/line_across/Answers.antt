use Rattle.std.proofs.Common.{arith, length, ◌-◌}
use Rattle.text_places.proofs.PlainLemmas.{plain_across}
use Rattle.text_places.proofs.plain.line_across.Goals as goal

pub returns : goal.returns
returns c text utf8 tells next_tells =
    let page = c.args.page.now in
    let next = c.args.next.now in
    plain_across text page next (length c.args.ends.now) (c.end_in-start.result - page.before.bytes) (c.end_in-end.result - next.before.bytes) _ utf8 tells next_tells c.requires.plain c.requires.next_plain c.requires.some
    c.end_in-start.ensures.end c.end_in-end.ensures.end (omega (arith, c.requires.next_ends.all, c.requires.next_some)) c.requires.bytes c.requires.rows
    (omega (arith, c.end_in-start.ensures.behind)) (omega (arith, c.end_in-end.ensures.behind))
