-- The law itself.
use Rattle.build_dirs.proofs.AgainLemmas.{keys_are_exact}
use Rattle.build_dirs.proofs.again.keys_are_exact.Goals as goal

pub returns : goal.returns
returns c = keys_are_exact
