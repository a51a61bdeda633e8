-- What is kept while reports are shown.
use Rattle.std.specs.Prelude.{◌≡◌, List, map, Bool}
use Rattle.oxc_windows.specs.Breaks.{breaks_of}
use Rattle.harmless.specs.Harmless.{KeepsPlaces}
use Rattle.render_files.specs.Given.{GivenReport}
use Rattle.found_reports.specs.declared.reports.FoundReport.{FoundReport}
use Rattle.found_reports.specs.Held.{Held, held_text}
use Rattle.found_reports.specs.Found.{NamedHeld}
use Rattle.found_reports.specs.Kept.{report_view}
use Rattle.shown_reports.specs.Shown.{shown_source, shown_parts, label_by_bytes}

-- each place of a source is one of the text that is shown, and so is each row
pub record KeepsHeld (raw : Bool) (held : Held) : Type 0 where
  pub places : KeepsPlaces (held_text held) (shown_source raw (held_text held))
  pub rows : breaks_of (shown_source raw (held_text held)) ≡ breaks_of (held_text held)

abbrev pub KeepsFile : Bool → NamedHeld → Type 0
KeepsFile raw file = KeepsHeld raw file.held

-- a report as one of a document, on the file with its number
unfoldable pub shown_as : Bool → List NamedHeld → FoundReport → GivenReport
shown_as raw held report =
    record {
      file = report.file;
      diagnostic = shown_parts raw (report_view held report);
      labels = map (label_by_bytes raw) report.diagnostic.labels;
    }
