-- The reports that a log means.
use Rattle.std.specs.Prelude.{ℕ, ◌^◌, true, not, List, [], ◌∷◌, ◌++◌, map, filter, flat_map, nat_lt, if◌then◌else◌, Option, Some, None, option_and_then, unwrap_or}
use Rattle.std.specs.declared.ops.Range.{Range}
use Rattle.oxc_span.specs.Label.{Label}
use Rattle.oxc_protocol.specs.Parts.{OxcParts}
use Rattle.oxc_protocol.specs.declared.protocol.Severity.{Severity}
use Rattle.oxc_protocol.specs.declared.protocol.Severity.TheVariants as severity
use Rattle.found_reports.specs.Found.{Found, NamedHeld, found_on}
use Rattle.found_reports.specs.Held.{Held, lacks}
use Rattle.found_reports.specs.declared.places.GivenPlace.{GivenPlace}
use Rattle.found_reports.specs.declared.sources.Lack.TheVariants.{Missing}
use Rattle.sarif_log.specs.declared.log.ColumnKind.{ColumnKind}
use Rattle.sarif_log.specs.declared.log.Level.{Level}
use Rattle.sarif_log.specs.declared.log.Level.TheVariants as level
use Rattle.sarif_log.specs.declared.log.Region.{Region}
use Rattle.sarif_log.specs.Log.{Log, Run}
use Rattle.sarif.specs.Findings.{Finding, findings_in}
use Rattle.sarif.specs.Rules.{some_text}
use Rattle.sarif.specs.Labels.{Placed, is_beside, label_at, labels_with, placed, span_in_held}
use Rattle.sarif.specs.Reading.{Reading, reading_of}

-- ---- what a report says

abbrev pub severity_of : Level → Severity
severity_of level.None = severity.Advice
severity_of level.Note = severity.Advice
severity_of level.Warning = severity.Warning
severity_of level.Error = severity.Error

-- a finding as a diagnostic, with the tool's name as scope
unfoldable pub diagnostic_of : Reading → Finding → Severity → List ℕ → List Label → OxcParts
diagnostic_of reading finding grave message labels =
    record {
      message = message;
      labels = labels;
      help = None;
      note = None;
      severity = grave;
      code = record { scope = some_text reading.scope; number = some_text finding.number };
      url = finding.url;
    }

-- ---- places as the log gives them

abbrev pub in_u32 : ℕ → Option ℕ
in_u32 n = if nat_lt n (2 ^ 32) then Some n else None

abbrev pub no_place : GivenPlace
no_place = record { line = None; column = None; end_line = None; end_column = None }

unfoldable pub given_place : Option Region → GivenPlace
given_place None = no_place
given_place (Some region) =
    record {
      line = option_and_then in_u32 region.start_line;
      column = option_and_then in_u32 region.start_column;
      end_line = option_and_then in_u32 region.end_line;
      end_column = option_and_then in_u32 region.end_column;
    }

-- ---- reports behind a first one

-- the message of a location, or the finding's where it has none
abbrev pub message_or : Option (List ℕ) → List ℕ → List ℕ
message_or own message = unwrap_or (some_text own) message

abbrev pub aside_diagnostic : Reading → Finding → Option (List ℕ) → List Label → OxcParts
aside_diagnostic reading finding message labels =
    diagnostic_of reading finding severity.Advice (message_or message finding.message) labels

abbrev pub aside_at : Reading → Finding → Option Region → Option (List ℕ) → NamedHeld → Option (Range ℕ) → Found
aside_at reading finding region message file None =
    found_on file (aside_diagnostic reading finding message []) (Some (given_place region))
aside_at reading finding region message file (Some span) =
    found_on file (aside_diagnostic reading finding message (label_at true None span ∷ [])) None

abbrev pub aside_on : Reading → Finding → Option Region → Option (List ℕ) → NamedHeld → Found
aside_on reading finding region message file =
    aside_at reading finding region message file (span_in_held reading file.held region)

abbrev pub aside_in : Reading → Finding → Placed → Option NamedHeld → List Found
aside_in reading finding it None = []
aside_in reading finding it (Some file) = aside_on reading finding it.region it.message file ∷ []

-- the advice that a location becomes: none where it names no file
unfoldable pub aside : Reading → Finding → Placed → List Found
aside reading finding it = aside_in reading finding it it.source

-- ---- the reports of a finding

abbrev pub main_diagnostic : Reading → Finding → List Label → OxcParts
main_diagnostic reading finding labels = diagnostic_of reading finding (severity_of finding.level) finding.message labels

-- the advice that those of these locations become that aren't in a file
abbrev pub asides_beside : Reading → Finding → NamedHeld → List Placed → List Found
asides_beside reading finding file others =
    flat_map (aside reading finding) (filter (λ it. not (is_beside reading file it)) others)

-- a report with its first label: the other locations in its file are labels, and the rest advice
abbrev pub labeled_reports : Reading → Finding → NamedHeld → Label → List Placed → List Found
labeled_reports reading finding file first others =
    found_on file (main_diagnostic reading finding (labels_with reading file (first ∷ []) others)) None
    ∷ asides_beside reading finding file others

-- at the first location that names a file: where it has a span, that is the first label; where it has none, the report
-- keeps the place that the log gives, and all others are advice
abbrev pub reports_by : Reading → Finding → Placed → NamedHeld → List Placed → Option (Range ℕ) → List Found
reports_by reading finding first file others None =
    found_on file (main_diagnostic reading finding []) (Some (given_place first.region)) ∷ flat_map (aside reading finding) others
reports_by reading finding first file others (Some span) =
    labeled_reports reading finding file (label_at true first.message span) others

unfoldable pub reports_at : Reading → Finding → Placed → NamedHeld → List Placed → List Found
reports_at reading finding first file others =
    reports_by reading finding first file others (span_in_held reading file.held first.region)

-- a file without a name, of which there is nothing
abbrev pub nowhere : NamedHeld
nowhere = record { name = []; held = lacks Missing }

abbrev pub where_named : Option NamedHeld → List Found → (NamedHeld → List Found) → List Found
where_named None other found = other
where_named (Some file) other found = found file

-- the first of the locations that names a file counts; where none does, the report is on no file
unfoldable pub reports_among : Reading → Finding → List Placed → List Placed → List Found
reports_among reading finding [] related = found_on nowhere (main_diagnostic reading finding []) None ∷ []
reports_among reading finding (it ∷ rest) related =
    where_named it.source (reports_among reading finding rest related)
    (λ file. reports_at reading finding it file (rest ++ related))

unfoldable pub finding_reports : (List ℕ → Held) → Reading → Finding → List Found
finding_reports told reading finding =
    reports_among reading finding (map (placed told reading) finding.locations) (map (placed told reading) finding.related)

-- ---- the reports of a log

-- finding by finding
unfoldable pub run_reports : (List ℕ → Held) → Option ColumnKind → Run → List Found
run_reports told columns run = flat_map (finding_reports told (reading_of columns run)) (findings_in run)

-- run by run
unfoldable pub reports_in : (List ℕ → Held) → Option ColumnKind → Log → List Found
reports_in told columns log = flat_map (run_reports told columns) log.runs
