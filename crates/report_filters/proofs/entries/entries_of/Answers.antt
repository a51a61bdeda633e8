-- The finding of the next report comes after the others.
use Rattle.std.proofs.Common.{◌≡◌, ◌++◌, map, string_bytes, subst}
use Rattle.found_reports.specs.Kept.{file_view, report_view}
use Rattle.report_filters.specs.Entries.{entries_from, entries_of, entry_parts}
use Rattle.report_filters.proofs.EntryLemmas.{entries_on, stand_on, told_on}
use Rattle.report_filters.proofs.entries.entries_of.Goals as goal

pub loop-report-preserved : goal.loop-report-preserved
loop-report-preserved c =
    let files = map file_view c.files-files.result.now in
    let view = report_view files in
    let front = string_bytes c.args.root.now.front in
    let before = map entry_parts c.loop-report.entries.items in
    let all = entries_of front c.args.rows c.args.notes c.args.found.now.found in
    let report = c.in-Some.report in
    let others = c.in-Some.others in
    let finding = c.in-Some-next_finding.finding in
    let more = c.in-Some-next_finding.more in
    record {
      entries = entries_on front c.args.rows c.args.notes c.loop-report.inside before (map entry_parts c.push_entry.new.entries.items) all (view report.now) (map view others.now) c.in_ok-push_entry.ensures
          (subst (λ rs. before ++ entries_from front c.args.rows c.args.notes c.loop-report.inside (map view rs) ≡ all) c.in-Some.ensures c.loop-report.invariant.entries);
      told = (told_on files c.loop-report.told.now more.now c.loop-report.rest.now others.now finding.now report.now c.in-Some-next_finding.ensures c.in-Some.ensures c.loop-report.invariant.told).1;
      stand = (stand_on files c.loop-report.rest.now others.now report.now c.in-Some.ensures c.loop-report.invariant.stand).1;
    }

pub push_entry-requires-clause-stands : goal.push_entry-requires-clause-stands
push_entry-requires-clause-stands c =
    (stand_on (map file_view c.files-files.result.now) c.loop-report.rest.now c.in-Some.others.now c.in-Some.report.now c.in-Some.ensures c.loop-report.invariant.stand).0
