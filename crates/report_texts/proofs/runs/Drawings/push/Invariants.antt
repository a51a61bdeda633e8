-- The reports before are drawn.
use Rattle.std.proofs.Common.{◌≡◌, ◌++◌, map, string_bytes, take}
use Rattle.found_reports.specs.Kept.{file_view, report_view}
use Rattle.report_texts.specs.Texts.{drawings}
use Rattle.report_texts.proofs.runs.Drawings.push.Given as goal

abbrev pub invariant-loop-report : goal.invariant-loop-report
invariant-loop-report l = record {
  same : l.self ≡ l.initial.self;
  text : string_bytes l.text
      ≡ string_bytes l.initial.text ++ drawings l.initial.self.look l.initial.self.raw (map (report_view (map file_view l.files)) (take l.report-index l.first));
}
