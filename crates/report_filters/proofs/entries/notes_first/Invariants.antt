-- Those before the reports that are left are notes.
use Rattle.std.proofs.Common.{◌≡◌, ◌+◌, ◌≤◌, length}
use Rattle.std.specs.List.{prefix_len}
use Rattle.report_filters.specs.Entries.{is_more}
use Rattle.report_filters.proofs.entries.notes_first.Given as goal

abbrev pub invariant-loop-rest : goal.invariant-loop-rest
invariant-loop-rest l = record {
  count : prefix_len (λ report. is_more report.diagnostic) l.reports + length l.rest ≡ length l.reports + prefix_len (λ report. is_more report.diagnostic) l.rest;
  within : length l.rest ≤ length l.reports;
}

abbrev pub decreases-loop-rest : goal.decreases-loop-rest
decreases-loop-rest l = length l.rest
