use Rattle.std.proofs.Common.{◌≡◌, map, take}
use Rattle.finding_summaries.specs.Markdown.{left_out}
use Rattle.finding_summaries.specs.Ranking.{row_parts}
use Rattle.finding_summaries.proofs.markdown.left.Given as goal

abbrev pub invariant-loop-row : goal.invariant-loop-row
invariant-loop-row l = l.left ≡ left_out l.all (map row_parts (take l.row-index l.shown))
