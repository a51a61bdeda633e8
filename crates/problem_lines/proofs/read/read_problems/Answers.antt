use Rattle.std.proofs.Common.{map, ◌∙◌}
use Rattle.oxc_protocol.specs.Info.{info_of}
use Rattle.problem_lines.proofs.GivenBack.{given_back}
use Rattle.problem_lines.proofs.ReportLemmas.{run_in_range, run_joined}
use Rattle.problem_lines.proofs.read.read_problems.Goals as goal

pub returns-clause-back : goal.returns-clause-back
returns-clause-back c = given_back c.args.text.now c.read_all.result c.read_all.ensures.read c.read_all.ensures.cause

pub returns-clause-reported : goal.returns-clause-reported
returns-clause-reported c = λ first last ps answers run joined.
    given_back c.args.text.now c.read_all.result c.read_all.ensures.read c.read_all.ensures.cause (map info_of ps) (run_in_range _ (λ s p x t given. given) ps answers first last run)
    (joined ∙ run_joined _ (λ s p x t given. given) ps answers first last run)
