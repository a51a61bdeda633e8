use Rattle.build_dirs.specs.Again.{seen_in}
use Rattle.build_dirs.proofs.AgainLemmas.{none_there}
use Rattle.build_dirs.proofs.again.SeenKeys.new.Goals as goal

pub returns : goal.returns
unfolding seen_in
returns c = none_there c.new.result c.new.ensures.empty
