use Rattle.finding_filters.proofs.LawLemmas.{ruled_from, ruled_to}
use Rattle.finding_filters.proofs.laws.rule_means.Goals as goal

pub returns : goal.returns
returns c = let a = c.args in (λ is. ruled_to a._rule.now a._scope.now a._code.now is, λ is. ruled_from a._rule.now a._scope.now a._code.now is)
