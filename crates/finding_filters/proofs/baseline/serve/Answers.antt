use Rattle.finding_filters.specs.Baseline.{left_in, less}
use Rattle.finding_filters.proofs.baseline.serve.Goals as goal

pub returns-clause-served : goal.returns-clause-served
unfolding left_in
returns-clause-served c = c.serve_one.ensures.served

pub returns-clause-left : goal.returns-clause-left
unfolding left_in less
returns-clause-left c = λ i. λ q. c.serve_one.ensures.left q i
