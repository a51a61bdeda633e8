-- The lines that were written and those to come are all lines.
use Rattle.std.proofs.Common.{◌≡◌, ◌++◌, drop, map, string_bytes}
use Rattle.render_files.specs.Given.{given_report}
use Rattle.render_files.specs.Rendered.{json_lines}
use Rattle.render_files.proofs.render.write_all_json.Given as goal

abbrev pub invariant-loop-at : goal.invariant-loop-at
invariant-loop-at l = record {
  known : l.readers ≡ record { files = l.files; rows = 0 };
  written : string_bytes l.text ++ json_lines l.files (map given_report (drop l.at l.reports))
      ≡ json_lines l.files (map given_report l.reports);
}
