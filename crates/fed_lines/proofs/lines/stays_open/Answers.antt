use Rattle.std.proofs.Common.{map, ap}
use Rattle.line_shapes.specs.Shape.{shape_parts}
use Rattle.tool_lines.specs.Lines.{BegunParts}
use Rattle.fed_lines.proofs.FeedLemmas.{goes_so, stays_items}
use Rattle.fed_lines.proofs.lines.stays_open.Goals as goal

pub returns-in-len3-up : goal.returns-in-len3-up
returns-in-len3-up c =
    λ goes.
    stays_items (λ line. line.items) (map shape_parts c.args.shapes.now) c.args.lines.now c.first-item.result c.second-item.result c.last-item.result c.args.line.now c.in-len3-up.len_at_least c.first-item.is c.second-item.is c.last-item.is
    (goes_so (map shape_parts c.args.shapes.now) c.first-item.result.items c.second-item.result.items c.last-item.result.items c.deref.result.now c.deref-in-len3-up.result.now c.deref-in-len3-up-2.result.now c.args.line.now c.what_begins.result.sort c.goes_on.result
    c.deref.ensures.value c.deref-in-len3-up.ensures.value c.deref-in-len3-up-2.ensures.value (ap (λ (begun : BegunParts). begun.sort) c.what_begins.ensures) c.goes_on.ensures goes)
