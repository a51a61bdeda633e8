-- What was drawn and what is to come are all drawings.
use Rattle.std.proofs.Common.{◌≡◌, ◌++◌, drop, map, string_bytes}
use Rattle.render_files.specs.Rendered.{drawn_reports}
use Rattle.report_arrays.specs.Values.{report}
use Rattle.report_arrays.proofs.drawn.draw_all.Given as goal

abbrev pub invariant-loop-report : goal.invariant-loop-report
invariant-loop-report l = record {
  known : l.readers ≡ l.sources;
  drawn : string_bytes l.text ++ drawn_reports l.handler l.sources (map (report l.texts l.labels) (drop l.report-index l.reports))
      ≡ drawn_reports l.handler l.sources (map (report l.texts l.labels) l.reports);
}
