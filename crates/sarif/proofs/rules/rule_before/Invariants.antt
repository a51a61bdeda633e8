-- No rule has a longer beginning.
use Rattle.std.proofs.Common.{◌≡◌, ◌≤◌, length, map}
use Rattle.sarif_log.specs.Log.{rule_view}
use Rattle.sarif.specs.Rules.{rule_before}
use Rattle.sarif.proofs.rules.rule_before.Given as goal

abbrev pub invariant-loop-end : goal.invariant-loop-end
invariant-loop-end l =
    record {
      within : l.end ≤ length l.id;
      same : rule_before (map rule_view l.rules) l.id (length l.id) ≡ rule_before (map rule_view l.rules) l.id l.end;
    }

abbrev pub decreases-loop-end : goal.decreases-loop-end
decreases-loop-end l = l.end
