-- Pages of ASCII without a CR, and the lines in them.
use Rattle.std.specs.Prelude.{◌≡◌, ℕ, ◌+◌, ◌-◌, ◌<◌, ◌≤◌, List, length, slice_index}
use Rattle.std.specs.Str.{IsAscii}
use Rattle.source_location.specs.Breaks.{breaks_of}
use Rattle.text_places.specs.Bytes.{before}
use Rattle.text_places.specs.Places.{line_begin, line_end}
use Rattle.text_places.specs.declared.encoding.Encoding.{Encoding}
use Rattle.text_places.specs.declared.plain.PlainLine.{PlainLine}

-- bytes of ASCII, none of which is a CR
pub record IsPlain (bytes : List ℕ) : Type 0 where
  pub ascii : IsAscii bytes
  pub no_cr : (place : ℕ) → place < length bytes → slice_index bytes place ≡ 13 → ⊥

-- as many units begin as there are bytes, from one place of a text to another
abbrev pub IsEven : List ℕ → ℕ → ℕ → Type 0
IsEven text from to = (encoding : Encoding) (offset : ℕ) → from ≤ offset → offset ≤ to → before encoding text offset ≡ before encoding text from + (offset - from)

-- a line of ASCII with a break of one byte: where it starts, and where its break begins
pub record IsPlainLine (text : List ℕ) (number : ℕ) (line : PlainLine) : Type 0 where
  pub more : number < length (breaks_of text)
  pub begins : line.start ≡ line_begin text number
  pub ends : line.limit ≡ line_end text number
  pub behind : line.limit + 1 ≡ line_begin text (number + 1)
  pub ordered : line.start ≤ line.limit
  pub even : IsEven text line.start (line.limit + 1)
