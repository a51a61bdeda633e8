use Rattle.std.proofs.Common.{◌≡◌, map, length}
use Rattle.std.specs.List.{list_all}
use Rattle.line_reports.specs.Fixes.{is_plain, suggested_parts}
use Rattle.line_reports.proofs.fixes.are_plain.Given as goal

abbrev pub invariant-loop-hunk : goal.invariant-loop-hunk
invariant-loop-hunk l = list_all is_plain (map suggested_parts l.hunk) ≡ list_all is_plain (map suggested_parts l.initial.hunk)

abbrev pub decreases-loop-hunk : goal.decreases-loop-hunk
decreases-loop-hunk l = length l.hunk
