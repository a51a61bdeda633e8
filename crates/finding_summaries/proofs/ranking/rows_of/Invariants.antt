use Rattle.std.proofs.Common.{◌≡◌, map, take}
use Rattle.finding_summaries.specs.Ranking.{row_in, row_parts}
use Rattle.finding_summaries.proofs.ranking.rows_of.Given as goal

abbrev pub invariant-loop-name : goal.invariant-loop-name
invariant-loop-name l = map row_parts l.rows.items ≡ map (row_in l.counts) (take l.name-index l.each)
