use Rattle.std.proofs.Common.{refl}
use Rattle.girzohal_options.proofs.NearLemmas.{near_closest, near_more, none_near}
use Rattle.girzohal_options.proofs.near.closest.Goals as goal

pub loop-name-init : goal.loop-name-init
loop-name-init c = none_near c.args.text.now _ refl refl

pub loop-name-preserved : goal.loop-name-preserved
loop-name-preserved c = near_more c.args.names.now c.args.text.now c.loop-name.name-index _ _ c.loop-name.near c.in_ok-near.near c.loop-name-test.true refl c.loop-name.invariant c.in_ok-near.ensures

pub returns : goal.returns
returns c = near_closest c.args.names.now c.args.text.now c.loop-name.name-index c.loop-name.near c.loop-name-test.false c.loop-name.invariant
