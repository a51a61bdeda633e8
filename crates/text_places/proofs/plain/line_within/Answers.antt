use Rattle.std.proofs.Common.{arith, ◌-◌}
use Rattle.text_places.proofs.PlainLemmas.{plain_within}
use Rattle.text_places.proofs.plain.line_within.Goals as goal

pub returns : goal.returns
returns c text utf8 tells =
    let page = c.args.page.now in
    plain_within text page c.args.row (c.end_in-start.result - page.before.bytes) (c.end_in-end.result - page.before.bytes) _ utf8 tells c.requires.plain c.requires.some (omega (arith, c.requires.ends.all, c.requires.listed))
    c.end_in-start.ensures.end c.end_in-end.ensures.end (omega (arith, c.end_in-start.ensures.behind)) (omega (arith, c.end_in-end.ensures.behind))
