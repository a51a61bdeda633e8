-- What contracts see of the code's values.
use Rattle.std.specs.Prelude.{◌≡◌, ℕ, ◌<◌, List, All, IfSome, length, map, Option, Some, option_map, option_and_then, slice_get, string_bytes}
use Rattle.std.specs.Borrow.{Bor}
use Rattle.found_reports.specs.Found.{NamedHeld, file_at}
use Rattle.found_reports.specs.Held.{Held, holds, lacks, held_of, held_text}
use Rattle.found_reports.specs.Kept.{IsShortHeld}
use Rattle.sarif_log.specs.Log.{UriBase, artifact_location_view, uri_base_view}
use Rattle.sarif_log.specs.declared.log.UriBase as code_base
use Rattle.sarif_spans.specs.Rows.{IsRowOf, rows_in}
use Rattle.sarif.specs.Seen.{borrowed}
use Rattle.sarif.specs.Labels.{Placed}
use Rattle.sarif.specs.Reading.{Reading}
use Rattle.sarif.specs.Texts.{source_of}
use Rattle.sarif.specs.declared.known.Known as code_known
use Rattle.sarif.specs.declared.known.Placed as code_placed
use Rattle.sarif.specs.declared.reading.Reading as code_reading
use Rattle.sarif.specs.declared.texts.Had as code_had

abbrev pub lent_texts : List (Bor (List ℕ)) → List (List ℕ)
lent_texts list = map (λ it. it.now) list

abbrev pub base_seen : Option (Bor code_base.UriBase) → Option UriBase
base_seen it = option_map (λ lent. uri_base_view lent.now) it

abbrev pub had_view : code_had.Had → NamedHeld
had_view it = record { name = string_bytes it.name; held = held_of it.text }

unfoldable pub reading_view : code_reading.Reading → Reading
reading_view it =
    record {
      names = it.contents;
      columns = it.columns;
      breaks = lent_texts it.breaks.items;
      scope = borrowed it.scope;
    }

-- ---- the files of a run that were asked for

abbrev pub known_view : code_known.Known → NamedHeld
known_view it = record { name = string_bytes it.name; held = held_of it.text }

-- a file holds what its location stands for
abbrev pub IsTold : (List ℕ → Held) → Reading → code_known.Known → Type 0
IsTold told reading it = source_of told reading.names (artifact_location_view it.location.now) ≡ Some (known_view it)

-- a file's rows are those of its text, which has fewer than `u32::MAX` bytes
pub record IsReadable (reading : Reading) (it : code_known.Known) : Type 0 where
  pub rows : it.rows.items ≡ rows_in reading.breaks (held_text (held_of it.text))
  pub cut : All (IsRowOf (held_text (held_of it.text))) it.rows.items
  pub short : IsShortHeld (held_of it.text)

-- there is a text
abbrev pub HoldsText : Held → Type 0
HoldsText (holds text) = Unit {0}
HoldsText (lacks why) = ⊥

-- and it is among the files of the reports
pub record IsFiled (reading : Reading) (files : List NamedHeld) (it : code_known.Known) : Type 0 where
  pub readable : IsReadable reading it
  pub within : it.file < length files
  pub filed : file_at files it.file ≡ known_view it

-- the file at a seat
abbrev pub seated : List code_known.Known → Option ℕ → Option NamedHeld
seated known seat = option_and_then (λ k. option_map known_view (slice_get known k)) seat

abbrev pub placed_view : List code_known.Known → code_placed.Placed → Placed
placed_view known it = record { source = seated known it.seat; region = it.region; message = borrowed it.message }

-- a location's seat is one of the known files
abbrev pub IsSeated : List code_known.Known → code_placed.Placed → Type 0
IsSeated known it = IfSome it.seat (λ k. k < length known)
