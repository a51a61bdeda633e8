use Rattle.std.proofs.Common.{◌≡◌, ◌++◌, map, string_bytes, length}
use Rattle.json_reports.specs.Reports.{lines_after}
use Rattle.json_reports.proofs.words.push_lines.Given as goal

abbrev pub invariant-loop-lines : goal.invariant-loop-lines
invariant-loop-lines l = string_bytes l.text ++ lines_after (map (λ line. line.now) l.lines) ≡ string_bytes l.initial.text ++ lines_after (map (λ line. line.now) l.initial.lines)

abbrev pub decreases-loop-lines : goal.decreases-loop-lines
decreases-loop-lines l = length l.lines
