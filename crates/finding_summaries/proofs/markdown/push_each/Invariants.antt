use Rattle.std.proofs.Common.{◌≡◌, ◌++◌, map, string_bytes, take}
use Rattle.std.specs.List.{flat_map}
use Rattle.finding_summaries.specs.Markdown.{row_text}
use Rattle.finding_summaries.specs.Ranking.{row_parts}
use Rattle.finding_summaries.proofs.markdown.push_each.Given as goal

abbrev pub invariant-loop-row : goal.invariant-loop-row
invariant-loop-row l = string_bytes l.out ≡ string_bytes l.initial.out ++ flat_map row_text (map row_parts (take l.row-index l.rows))
