-- What was drawn and what is to come are all drawings.
use Rattle.std.proofs.Common.{◌≡◌, ◌++◌, drop, map, string_bytes}
use Rattle.render_files.specs.Given.{given_report}
use Rattle.render_files.specs.Rendered.{drawn_reports}
use Rattle.render_files.proofs.render.draw_all.Given as goal

abbrev pub invariant-loop-at : goal.invariant-loop-at
invariant-loop-at l = record {
  known : l.readers ≡ record { files = l.files; rows = 1 };
  drawn : string_bytes l.text ++ drawn_reports l.handler l.files (map given_report (drop l.at l.reports))
      ≡ drawn_reports l.handler l.files (map given_report l.reports);
}
