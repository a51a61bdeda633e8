-- What the index of a text knows of it.
use Rattle.std.specs.Prelude.{◌≡◌, ℕ, ◌<◌, ◌≤◌, List, length, map, slice_index, slice_index_or, slice_range, All, AllPairs}
use Rattle.std.specs.Char.{IsScalar}
use Rattle.std.specs.Str.{IsUtf8}
use Rattle.std.specs.Str.Pattern.{HasCharAt}
use Rattle.source_location.specs.Breaks.{breaks_of}
use Rattle.source_location.specs.Rows.{line_starts}
use Rattle.source_location.specs.Index.{Fits}
use Rattle.utf16_places.specs.Units.{utf16_units}
use Rattle.text_places.specs.Places.{line_start_of}
use Rattle.utf16_places.specs.declared.wide.WideCharacter.{WideCharacter}

-- a character past ASCII stands there in the text, and that many units of its row are before its end
pub record IsWideIn (text : List ℕ) (wide : WideCharacter) : Type 0 where
  pub character : ℕ
  pub scalar : IsScalar character
  pub stands : HasCharAt character text wide.start wide.end
  pub past_ascii : 128 ≤ character
  pub unit : wide.unit ≡ utf16_units (slice_range text (line_start_of text wide.start) wide.end)

-- all characters past ASCII that begin before a place of the text, in order
pub record AreWideBefore (text : List ℕ) (place : ℕ) (wide : List WideCharacter) : Type 0 where
  pub there : All (λ c. IsWideIn text c) wide
  pub before : All (λ c. c.start < place) wide
  pub ascend : AllPairs (λ a b. a.start < b.start) wide
  pub complete : (at : ℕ) → at < place → 192 ≤ slice_index text at → (k : ℕ) × (k < length wide) × ((d : WideCharacter) → (slice_index_or wide k d).start ≡ at)

-- those of a whole text
pub record AreWideOf (text : List ℕ) (wide : List WideCharacter) : Type 0 where
  pub utf8 : IsUtf8 text
  pub whole : AreWideBefore text (length text) wide

-- where the lines start, where their breaks begin, the characters past ASCII, and where the text ends
pub record Utf16View : Type 0 where
  pub line_starts : List ℕ
  pub line_breaks : List ℕ
  pub wide : List WideCharacter
  pub end : ℕ

-- the index is that of the text
pub record IsIndexOf (index : Utf16View) (text : List ℕ) : Type 0 where
  pub fits : Fits text
  pub starts : index.line_starts ≡ line_starts (breaks_of text)
  pub breaks : index.line_breaks ≡ map (λ b. b.start) (breaks_of text)
  pub wide : AreWideOf text index.wide
  pub end : index.end ≡ length text

-- an index is that of some text
pub record IsIndex (index : Utf16View) : Type 0 where
  pub text : List ℕ
  pub known : IsIndexOf index text
