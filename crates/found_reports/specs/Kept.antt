-- What contracts see of reports that are kept with their files.
use Rattle.std.specs.Prelude.{◌<◌, ⊤, List, length, map, string_bytes}
use Rattle.oxc_protocol.specs.Source.{Fits}
use Rattle.found_reports.specs.Held.{Held, holds, lacks, held_of}
use Rattle.found_reports.specs.Fixes.{fix_view}
use Rattle.found_reports.specs.Found.{Found, NamedHeld, LabelsStand, file_at, found_fixed}
use Rattle.found_reports.specs.declared.reports.FoundFile.{FoundFile}
use Rattle.found_reports.specs.declared.reports.FoundReport.{FoundReport}

-- the files by their numbers, and the reports
pub record FoundParts : Type 0 where
  pub files : List NamedHeld
  pub found : List Found

abbrev pub file_view : FoundFile → NamedHeld
file_view file = record { name = string_bytes file.name; held = held_of file.source }

abbrev pub report_on : NamedHeld → FoundReport → Found
report_on file report = found_fixed file report.diagnostic report.place (map fix_view report.fixes.items)

abbrev pub report_view : List NamedHeld → FoundReport → Found
report_view files report = report_on (file_at files report.file) report

abbrev pub IsShortHeld : Held → Type 0
IsShortHeld (holds text) = Fits text
IsShortHeld (lacks why) = ⊤

-- a text has fewer than `u32::MAX` bytes
abbrev pub IsShort : NamedHeld → Type 0
IsShort file = IsShortHeld file.held

-- the report's file is there, and its labels stand in that file's text
pub record Stands (files : List NamedHeld) (report : FoundReport) : Type 0 where
  pub held : report.file < length files
  pub labels : LabelsStand (file_at files report.file).held report.diagnostic.labels
