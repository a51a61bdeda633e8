-- No row before is long.
use Rattle.std.proofs.Common.{◌≡◌, ◌+◌, ◌-◌, ◌≤◌}
use Rattle.report_texts.specs.LongRows.{long_from}
use Rattle.report_texts.proofs.long_rows.long_in.Given as goal

abbrev pub invariant-loop-row : goal.invariant-loop-row
invariant-loop-row l = record {
  left : long_from l.most l.source l.end l.row (l.last + 1 - l.row) ≡ long_from l.most l.source l.end l.contents.line (l.last + 1 - l.contents.line);
}

abbrev pub decreases-loop-row : goal.decreases-loop-row
decreases-loop-row l = l.last + 1 - l.row
