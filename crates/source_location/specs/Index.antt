-- What the index of a text knows of it.
use Rattle.std.specs.Prelude.{◌≡◌, ℕ, ◌-◌, ◌^◌, ◌<◌, nat_lt, Bool, true, false, List, length}
use Rattle.std.specs.List.{list_all}
use Rattle.source_location.specs.declared.line_index.IndexKind.{IndexKind}
use Rattle.source_location.specs.declared.line_index.IndexKind.TheVariants.{Ascii, Utf8}
use Rattle.source_location.specs.Breaks.{breaks_of}
use Rattle.source_location.specs.Rows.{line_starts}

-- a text is short enough that each row, column and offset is a `u32`
abbrev pub Fits : List ℕ → Type 0
Fits text = length text < 2 ^ 32 - 1

-- each byte is ASCII
unfoldable pub is_ascii : List ℕ → Bool
is_ascii text = list_all (λ byte. nat_lt byte 128) text

-- where the rows start, how many bytes there are, and whether each is ASCII
pub record IndexView : Type 0 where
  pub line_starts : List ℕ
  pub length : ℕ
  pub is_ascii : Bool

-- the index of a text
abbrev pub index_of : List ℕ → IndexView
index_of text = record { line_starts = line_starts (breaks_of text); length = length text; is_ascii = is_ascii text }

-- an index is that of some text
pub record IsIndex (index : IndexView) : Type 0 where
  pub text : List ℕ
  pub fits : Fits text
  pub same : index ≡ index_of text

-- whether a kind of index is that of ASCII texts
abbrev pub is_ascii_kind : IndexKind → Bool
is_ascii_kind Ascii = true
is_ascii_kind Utf8 = false
