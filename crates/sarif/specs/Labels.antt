-- Where the locations of a finding stand, and what labels they become.
use Rattle.std.specs.Prelude.{ℕ, ◌-◌, ◌==◌, ◌&&◌, Bool, false, List, [], ◌∷◌, ◌++◌, if◌then◌else◌, Option, Some, None, option_and_then, is_none, is_some}
use Rattle.std.specs.List.{list_any}
use Rattle.std.specs.Str.{bytes_eq}
use Rattle.std.specs.declared.ops.Range.{Range}
use Rattle.oxc_span.specs.Label.{Label}
use Rattle.found_reports.specs.Found.{NamedHeld}
use Rattle.found_reports.specs.Held.{Held, holds, lacks}
use Rattle.sarif_log.specs.declared.log.Region.{Region}
use Rattle.sarif_spans.specs.Rows.{rows_in}
use Rattle.sarif_spans.specs.Span.{span_of}
use Rattle.sarif.specs.Findings.{Spot}
use Rattle.sarif.specs.Reading.{Reading}
use Rattle.sarif.specs.Texts.{source_of}

-- a location: the file that it is in, if it names one, its region, and what is said there
pub record Placed : Type 0 where
  pub source : Option NamedHeld
  pub region : Option Region
  pub message : Option (List ℕ)

abbrev pub placed : (List ℕ → Held) → Reading → Spot → Placed
placed told reading spot =
    record {
      source = source_of told reading.names spot.location.artifact;
      region = spot.location.region;
      message = spot.message;
    }

-- ---- spans

abbrev pub span_in_text : Reading → List ℕ → Region → Option (Range ℕ)
span_in_text reading text region = span_of reading.columns text (rows_in reading.breaks text) region

-- the bytes of a region of a file; none where its text lacks
abbrev pub span_in_held : Reading → Held → Option Region → Option (Range ℕ)
span_in_held reading (holds text) region = option_and_then (span_in_text reading text) region
span_in_held reading (lacks why) region = None

abbrev pub is_named : List ℕ → Option NamedHeld → Bool
is_named name None = false
is_named name (Some file) = bytes_eq file.name name

-- the bytes of a location in a file; none where it is in another
unfoldable pub span_beside : Reading → NamedHeld → Placed → Option (Range ℕ)
span_beside reading file it = if is_named file.name it.source then span_in_held reading file.held it.region else None

abbrev pub is_beside : Reading → NamedHeld → Placed → Bool
is_beside reading file it = is_some (span_beside reading file it)

-- ---- labels

abbrev pub label_at : Bool → Option (List ℕ) → Range ℕ → Label
label_at primary message span =
    record { text = message; offset = span.start; len = span.end - span.start; primary = primary }

-- a label tells nothing new: it is empty, says nothing, and one of these starts there
abbrev pub tells_nothing : List Label → Label → Bool
tells_nothing labels it = it.len == 0 && (is_none it.text && list_any (λ label. label.offset == it.offset) labels)

abbrev pub and_label : List Label → Label → List Label
and_label labels it = if tells_nothing labels it then labels else labels ++ it ∷ []

abbrev pub and_span : List Label → Option (List ℕ) → Option (Range ℕ) → List Label
and_span labels message None = labels
and_span labels message (Some span) = and_label labels (label_at false message span)

-- these labels and those of the locations in the file, in their order
unfoldable pub labels_with : Reading → NamedHeld → List Label → List Placed → List Label
labels_with reading file labels [] = labels
labels_with reading file labels (it ∷ rest) =
    labels_with reading file (and_span labels it.message (span_beside reading file it)) rest
