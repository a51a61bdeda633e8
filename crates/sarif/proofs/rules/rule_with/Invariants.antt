-- No rule before has the id.
use Rattle.std.proofs.Common.{◌≡◌, drop, map}
use Rattle.sarif_log.specs.Log.{rule_view}
use Rattle.sarif.specs.Rules.{rule_with}
use Rattle.sarif.proofs.rules.rule_with.Given as goal

abbrev pub invariant-loop-rule : goal.invariant-loop-rule
invariant-loop-rule l = rule_with (map rule_view l.rules) l.id ≡ rule_with (map rule_view (drop l.rule-index l.rules)) l.id
