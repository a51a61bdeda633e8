use Rattle.std.proofs.Common.{sym}
use Rattle.oxc_plan.proofs.BoundaryLemmas.{down_is, up_is}
use Rattle.oxc_plan.proofs.columns.boundary_near.Goals as goal

pub returns-then-at_start-clause-exact : goal.returns-then-at_start-clause-exact
returns-then-at_start-clause-exact c =
    let near = c.floor_char_boundary.ensures in
    rw c.if-at_start.true (sym (down_is c.args.text.now c.args.offset _ near.bound c.requires near.boundary near.nearest))

pub returns-else-at_start-clause-exact : goal.returns-else-at_start-clause-exact
returns-else-at_start-clause-exact c =
    let near = c.ceil_char_boundary.ensures in
    rw c.if-at_start.false (sym (up_is c.args.text.now c.args.offset _ (near.bound c.requires) c.requires near.boundary near.nearest))
