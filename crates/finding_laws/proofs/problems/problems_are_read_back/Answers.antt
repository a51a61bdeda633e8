use Rattle.std.proofs.Common.{map}
use Rattle.oxc_protocol.specs.Info.{info_parts}
use Rattle.finding_laws.proofs.ProblemLemmas.ProblemsBack.{all_read_back}
use Rattle.finding_laws.proofs.problems.problems_are_read_back.Goals as goal

pub returns : goal.returns
returns c = all_read_back (map info_parts c.args._infos.now) c.requires
