-- What an editor is told of a diagnostic.
use Rattle.std.specs.Prelude.{ℕ, ◌+◌, nat_le, List, [], ◌∷◌, Option, Some, None, length, string_bytes, if◌then◌else◌}
use Rattle.oxc_span.specs.Label.{Label, label_end}
use Rattle.oxc_span.specs.Views.{text_bytes}
use Rattle.oxc_windows.specs.Breaks.{breaks_of}
use Rattle.oxc_windows.specs.Rows.{place_of}
use Rattle.oxc_protocol.specs.Source.{SourceParts, source_name}
use Rattle.oxc_protocol.specs.Parts.{Parts}
use Rattle.oxc_protocol.specs.declared.protocol.Severity.{Severity}
use Rattle.oxc_protocol.specs.declared.protocol.Severity.TheVariants.{Advice, Warning, Error}
use Rattle.oxc_protocol.specs.declared.reporter.Info.{Info}
use Rattle.oxc_protocol.specs.declared.reporter.InfoPosition.{InfoPosition}

-- the fields of an `Info`, its texts as bytes
pub record InfoParts : Type 0 where
  pub start : InfoPosition
  pub end : InfoPosition
  pub filename : List ℕ
  pub message : List ℕ
  pub severity : Severity
  pub rule_id : Option (List ℕ)

abbrev pub info_parts : Info → InfoParts
info_parts i = record { start = i.start; end = i.end; filename = string_bytes i.filename; message = string_bytes i.message; severity = i.severity; rule_id = text_bytes i.rule_id }

-- the row and the byte column of an offset of a source, both from 1
abbrev pub position_of : List ℕ → ℕ → InfoPosition
position_of bytes offset =
    let place = place_of (length bytes) (breaks_of bytes) offset in
    record { line = place.row + 1; column = place.column + 1 }

-- the position that stands where none was found
abbrev pub no_position : InfoPosition
no_position = record { line = 0; column = 0 }

-- where a diagnostic starts and where it ends: its first label does, if it has a source within which that label ends
abbrev pub positions_of : Option SourceParts → List Label → Option (InfoPosition × InfoPosition)
positions_of None labels = None
positions_of (Some source) [] = None
positions_of (Some source) (label ∷ others) =
    if nat_le (label_end label) (length source.bytes)
    then Some (position_of source.bytes label.offset, position_of source.bytes (label_end label))
    else None

-- the name of a source, empty where there is none
abbrev pub filename_of : Option (List ℕ) → List ℕ
filename_of (Some name) = name
filename_of None = []

-- how grave a diagnostic that has a position is told to be: an error, unless it says that it is less
abbrev pub told_severity : Option Severity → Severity
told_severity None = Error
told_severity (Some Error) = Error
told_severity (Some Warning) = Warning
told_severity (Some Advice) = Warning

-- what is told of a diagnostic with these positions; without any it is a warning with no message, whatever the diagnostic says
abbrev pub info_at : Parts → Option (InfoPosition × InfoPosition) → InfoParts
info_at p (Some at) = record { start = at.0; end = at.1; filename = filename_of (source_name p.source); message = p.message; severity = told_severity p.severity; rule_id = p.code }
info_at p None = record { start = no_position; end = no_position; filename = filename_of (source_name p.source); message = []; severity = Warning; rule_id = p.code }

-- what is told of a diagnostic
abbrev pub info_of : Parts → InfoParts
info_of p = info_at p (positions_of p.source p.labels)
