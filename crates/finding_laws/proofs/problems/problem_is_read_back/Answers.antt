use Rattle.oxc_protocol.specs.Info.{info_parts}
use Rattle.finding_laws.proofs.ProblemLemmas.TextBack.{read_back}
use Rattle.finding_laws.proofs.problems.problem_is_read_back.Goals as goal

pub returns : goal.returns
returns c = read_back (info_parts c.args._info.now) c.requires
