-- No group before has a long row.
use Rattle.std.proofs.Common.{◌≡◌, drop}
use Rattle.oxc_windows.specs.Scan.{IsSameReader}
use Rattle.report_texts.specs.LongRows.{long_among}
use Rattle.report_texts.proofs.long_rows.long_among.Given as goal

abbrev pub invariant-loop-group : goal.invariant-loop-group
invariant-loop-group l = record {
  same : IsSameReader l.initial.scanner l.scanner;
  left : long_among l.most l.source l.spans (drop l.group-index l.groups) ≡ long_among l.most l.source l.spans l.groups;
}
