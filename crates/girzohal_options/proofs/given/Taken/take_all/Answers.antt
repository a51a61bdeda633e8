use Rattle.std.proofs.Common.{refl}
use Rattle.girzohal_options.proofs.GivenLemmas.{all_taken, item_taken}
use Rattle.girzohal_options.proofs.given.Taken.take_all.Goals as goal

pub loop-item-preserved : goal.loop-item-preserved
loop-item-preserved c =
    item_taken c.args.program c.args.self.now c.loop-item.self c.take.new.self c.args.items.now c.loop-item.item-index _ _ c.in_ok-fault.field-0 c.loop-item-test.true refl c.loop-item.invariant c.in_default.is
    c.in_ok-fault.ensures.fault c.in_ok-fault.ensures.taken

pub returns-clause-taken : goal.returns-clause-taken
returns-clause-taken c right = all_taken c.args.program c.args.self.now c.loop-item.self c.args.items.now c.loop-item.item-index c.loop-item-test.false c.loop-item.invariant
