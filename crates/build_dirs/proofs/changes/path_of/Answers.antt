-- The quotes around it.
use Rattle.build_dirs.proofs.ChangeLemmas.{no_path_close, no_path_open}
use Rattle.build_dirs.proofs.changes.path_of.Goals as goal

pub returns-in_default-clause-says : goal.returns-in_default-clause-says
returns-in_default-clause-says c = no_path_open c.args.quoted.now c.in_default.ensures.says

pub returns-in_default-before_quote-clause-says : goal.returns-in_default-before_quote-clause-says
returns-in_default-before_quote-clause-says c = no_path_close c.args.quoted.now c.in-Some.inner.now c.in-Some.ensures.says c.in_default-before_quote.ensures.says
