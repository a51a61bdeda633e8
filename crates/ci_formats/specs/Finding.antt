-- What is told of a report: where it stands, by its first label or by the place that its tool gave.
use Rattle.std.specs.Prelude.{ℕ, List, [], ◌∷◌, Option, Some, None, string_bytes}
use Rattle.oxc_span.specs.Label.{Label, label_end}
use Rattle.oxc_span.specs.Views.{text_bytes}
use Rattle.oxc_protocol.specs.Code.{shown_of}
use Rattle.oxc_protocol.specs.Parts.{OxcParts}
use Rattle.oxc_protocol.specs.declared.protocol.Severity.{Severity}
use Rattle.source_location.specs.Index.{IndexView}
use Rattle.indexed_sources.specs.Indexed.{index_held}
use Rattle.source_location.specs.Locations.{location_of}
use Rattle.found_reports.specs.Found.{Found, NamedHeld}
use Rattle.found_reports.specs.Held.{Held, holds, lacks}
use Rattle.found_reports.specs.declared.places.GivenPlace.{GivenPlace}
use Rattle.ci_formats.specs.declared.finding.Finding.{Finding}
use Rattle.ci_formats.specs.declared.finding.Location.{Location}

-- the fields of a `Finding`, its texts as bytes
pub record FindingParts : Type 0 where
  pub name : List ℕ
  pub start : Location
  pub end : Location
  pub severity : Severity
  pub code : Option (List ℕ)
  pub message : List ℕ

abbrev pub finding_parts : Finding → FindingParts
finding_parts it = record { name = string_bytes it.name; start = it.start; end = it.end; severity = it.severity; code = text_bytes it.code; message = string_bytes it.message }

-- the row and the column of an offset of a text
abbrev pub location_in : List ℕ → ℕ → Location
location_in text offset = record { row = Some (location_of text offset).row; column = Some (location_of text offset).column }

abbrev pub nowhere : Location
nowhere = record { row = None; column = None }

-- where the place that a tool gave starts and where it ends, if it gave one
abbrev pub given_start : Option GivenPlace → Location
given_start None = nowhere
given_start (Some place) = record { row = place.line; column = place.column }

abbrev pub given_end : Option GivenPlace → Location
given_end None = nowhere
given_end (Some place) = record { row = place.end_line; column = place.end_column }

-- where a report starts: its first label does, or else the given place
abbrev pub start_of : Held → List Label → Option GivenPlace → Location
start_of (holds text) (head ∷ others) place = location_in text head.offset
start_of (holds text) [] place = given_start place
start_of (lacks why) labels place = given_start place

-- and where it ends: just past the last character
abbrev pub end_of : Held → List Label → Option GivenPlace → Location
end_of (holds text) (head ∷ others) place = location_in text (label_end head)
end_of (holds text) [] place = given_end place
end_of (lacks why) labels place = given_end place

-- the finding of a report on a file of this name and with this text
abbrev pub finding_at : List ℕ → Held → OxcParts → Option GivenPlace → FindingParts
finding_at name held diagnostic place = record {
  name = name;
  start = start_of held diagnostic.labels place;
  end = end_of held diagnostic.labels place;
  severity = diagnostic.severity;
  code = shown_of diagnostic.code;
  message = diagnostic.message;
}

abbrev pub finding_of : Found → FindingParts
finding_of it = finding_at it.name it.held it.diagnostic it.place

-- the index of a file that has a text
abbrev pub index_in : NamedHeld → Option IndexView
index_in file = index_held file.held
