-- Reports that are drawn on the sources of a run.
use Rattle.std.specs.Prelude.{◌≡◌, ℕ, ◌<◌, Bool, List, [], length, map, slice_get, Option, Some, MatchOption}
use Rattle.std.specs.BTreeMap.{BTreeMap}
use Rattle.codespan.specs.Texts.{NamedText, text_of}
use Rattle.oxc_windows.specs.Scan.{Scan}
use Rattle.found_reports.specs.Held.{Held, lacks}
use Rattle.found_reports.specs.Listed.{held_by}
use Rattle.found_reports.specs.declared.sources.Lack.TheVariants.{Missing}
use Rattle.found_reports.specs.declared.sources.Source.{Source}
use Rattle.render_files.specs.Readers.{AreReadersOf}
use Rattle.shown_reports.specs.Sources.{shown_by}
use Rattle.girzohal_options.specs.declared.Asked.{Asked}
use Rattle.report_texts.specs.Texts.{look_of}
use Rattle.report_texts.specs.declared.look.Look.{Look}

-- how reports are drawn, and the sources that they are drawn on
pub record DrawnOn : Type 0 where
  pub look : Look
  pub raw : Bool
  pub entries : List Source

-- as it was asked for
abbrev pub drawn_on : Asked → List Source → DrawnOn
drawn_on asked entries = record { look = look_of asked; raw = asked.raw; entries = entries }

-- the text that is shown of a source
abbrev pub text_by : Bool → Source → NamedText
text_by raw entry = record { name = []; text = shown_by raw entry }

-- that of the source at a place
abbrev pub text_at : DrawnOn → ℕ → List ℕ
text_at on place = text_of (map (text_by on.raw) on.entries) place

-- each scanner reads the text that is shown of its source, with one row of context
abbrev pub AreScanners : Bool → List Source → BTreeMap ℕ Scan → Type 0
AreScanners raw entries scanners = AreReadersOf (record { files = map (text_by raw) entries; rows = 1 }) scanners

-- the source at a place is what is held of a file
pub record HoldsAt (entries : List Source) (held : Held) (place : ℕ) : Type 0 where
  pub within : place < length entries
  pub held_is : slice_get (map held_by entries) place ≡ Some held

-- a file's source is at this place; without a place it is missing
abbrev pub StandsAt : List Source → Held → Option ℕ → Type 0
StandsAt entries held place = MatchOption place (held ≡ lacks Missing) (HoldsAt entries held)
