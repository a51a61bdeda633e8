use Rattle.std.proofs.Common.{◌≡◌, length, map}
use Rattle.line_shapes.specs.Parse.{item_among}
use Rattle.line_shapes.proofs.parse.item_in.Given as goal

abbrev pub invariant-loop-items : goal.invariant-loop-items
invariant-loop-items l = item_among (map (λ item. (item.0.now, item.1)) l.items) l.name ≡ item_among (map (λ item. (item.0.now, item.1)) l.initial.items) l.name

abbrev pub decreases-loop-items : goal.decreases-loop-items
decreases-loop-items l = length l.items
