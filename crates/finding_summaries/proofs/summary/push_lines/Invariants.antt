use Rattle.std.proofs.Common.{◌≡◌, ◌++◌, map, string_bytes, take}
use Rattle.std.specs.List.{flat_map}
use Rattle.finding_summaries.specs.Ranking.{row_parts}
use Rattle.finding_summaries.specs.Summary.{line_text}
use Rattle.finding_summaries.proofs.summary.push_lines.Given as goal

abbrev pub invariant-loop-row : goal.invariant-loop-row
invariant-loop-row l = string_bytes l.out ≡ string_bytes l.initial.out ++ flat_map (line_text l.width) (map row_parts (take l.row-index l.rows))
