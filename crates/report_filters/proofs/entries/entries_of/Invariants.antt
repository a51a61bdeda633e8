-- The findings of the reports that are left come next.
use Rattle.std.proofs.Common.{◌≡◌, ◌++◌, All, length, map, string_bytes}
use Rattle.found_reports.specs.Kept.{Stands, file_view, report_view}
use Rattle.ci_formats.specs.Finding.{finding_of, finding_parts}
use Rattle.report_filters.specs.Entries.{entries_from, entries_of, entry_parts}
use Rattle.report_filters.proofs.entries.entries_of.Given as goal

abbrev pub invariant-loop-report : goal.invariant-loop-report
invariant-loop-report l =
    let files = map file_view l.files in
    let front = string_bytes l.root.front in
    record {
      entries : map entry_parts l.entries.items ++ entries_from front l.rows l.notes l.inside (map (report_view files) l.rest) ≡ entries_of front l.rows l.notes l.found.found;
      told : map finding_parts l.told ≡ map finding_of (map (report_view files) l.rest);
      stand : All (Stands files) l.rest;
    }

abbrev pub decreases-loop-report : goal.decreases-loop-report
decreases-loop-report l = length l.rest
