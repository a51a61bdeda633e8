use Rattle.source_store.proofs.PlaceLemmas.{answer_below}
use Rattle.source_store.proofs.place.locate.Goals as goal

pub returns-clause-below : goal.returns-clause-below
returns-clause-below c = answer_below c.args.root.now c.args.path.now c.args.anywhere c.located.result c.located.ensures
