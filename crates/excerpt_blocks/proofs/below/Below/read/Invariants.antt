use Rattle.std.proofs.Common.{◌≡◌, None, drop}
use Rattle.excerpt_blocks.specs.Below.{add_all, state_of}
use Rattle.excerpt_blocks.proofs.below.Below.read.Given as goal

abbrev pub invariant-loop-item : goal.invariant-loop-item
invariant-loop-item l =
    add_all l.above l.line l.number l.previous l.last (drop l.item-index l.items) (state_of l.self) ≡ add_all l.above l.line l.number None None l.items (state_of l.initial.self)
