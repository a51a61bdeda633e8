-- Sources with the indexes of their rows.
use Rattle.std.specs.Prelude.{◌≡◌, ℕ, ◌<◌, All, List, String, length, map, slice_get, Option, Some, None, Result, Ok, Err}
use Rattle.std.specs.BTreeMap.{BTreeMap}
use Rattle.std.specs.declared.alloc.Global.{Global}
use Rattle.source_location.specs.Index.{IndexView, index_of}
use Rattle.found_reports.specs.Found.{NamedHeld}
use Rattle.found_reports.specs.Held.{Held, holds, lacks}
use Rattle.found_reports.specs.Listed.{ArePlaces, held_by, held_in}
use Rattle.found_reports.specs.declared.sources.Lack.{Lack}
use Rattle.found_reports.specs.declared.sources.Source.{Source}
use Rattle.indexed_sources.specs.declared.row_text.RowText.{RowText}

-- the index of a text that is held
abbrev pub index_held : Held → Option IndexView
index_held (holds text) = Some (index_of text)
index_held (lacks why) = None

abbrev pub index_by : Source → Option IndexView
index_by source = index_held (held_by source)

-- the map tells where the first entry of each name is, and these are the indexes
pub record AreKept (entries : List Source) (places : BTreeMap (String Global) ℕ) (indexes : List (Option IndexView)) : Type 0 where
  pub places_are : ArePlaces 0 entries places
  pub indexes_are : indexes ≡ map index_by entries

-- what a text with its index, or the reason why there is none, says
abbrev pub text_held : Result RowText Lack → Held
text_held (Ok it) = holds it.text.now
text_held (Err why) = lacks why

-- the entry at a place counts for a name
pub record CountsAt (entries : List Source) (name : List ℕ) (place : ℕ) : Type 0 where
  pub within : place < length entries
  pub held : slice_get (map held_by entries) place ≡ Some (held_in entries name)

-- each file has what is told of its name
abbrev pub AreTold : (List ℕ → Held) → List NamedHeld → Type 0
AreTold told files = All (λ file. file.held ≡ told file.name) files
