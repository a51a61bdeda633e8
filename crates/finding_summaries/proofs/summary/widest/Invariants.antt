use Rattle.std.proofs.Common.{◌≡◌, map, take}
use Rattle.finding_summaries.specs.Ranking.{row_parts}
use Rattle.finding_summaries.specs.Summary.{widest}
use Rattle.finding_summaries.proofs.summary.widest.Given as goal

abbrev pub invariant-loop-row : goal.invariant-loop-row
invariant-loop-row l = l.most ≡ widest (map row_parts (take l.row-index l.rows))
