-- The reports before are drawn.
use Rattle.std.proofs.Common.{◌≡◌, map, string_bytes, take}
use Rattle.found_reports.specs.Kept.{file_view, report_view}
use Rattle.report_texts.specs.Texts.{drawings, look_of}
use Rattle.report_texts.proofs.drawing.first_drawings.Given as goal

abbrev pub invariant-loop-report : goal.invariant-loop-report
invariant-loop-report l = record {
  same : l.drawings ≡ l.initial.drawings;
  text : string_bytes l.text ≡ drawings (look_of l.asked) l.asked.raw (map (report_view (map file_view l.files)) (take l.report-index l.report-items));
}
