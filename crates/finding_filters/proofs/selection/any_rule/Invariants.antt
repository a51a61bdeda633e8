use Rattle.std.proofs.Common.{◌≡◌, List, drop}
use Rattle.std.specs.List.{list_any}
use Rattle.finding_filters.specs.Patterns.{rule_takes}
use Rattle.finding_filters.proofs.selection.any_rule.Given as goal
use Rattle.finding_filters.specs.declared.tokens.Token.{Token}

-- the patterns that are left decide
abbrev pub invariant-loop-rule : goal.invariant-loop-rule
invariant-loop-rule l = list_any (λ (rule : List Token). rule_takes rule l.scope l.code) (drop l.rule-index l.rules) ≡ list_any (λ (rule : List Token). rule_takes rule l.scope l.code) l.rules
