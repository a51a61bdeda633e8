-- What contracts see of the database: a list of named texts.
use Rattle.std.specs.Prelude.{ℕ, List, [], length, ◌<◌, slice_index_or, slice_set}

-- a file as contracts see it: the bytes of its name and of its source
pub record NamedText : Type 0 where
  pub name : List ℕ
  pub text : List ℕ

-- a text whose places all fit 32 bits: fewer than `u32::MAX` bytes
abbrev pub Fits : List ℕ → Type 0
Fits text = length text < 4294967295

-- the file at a place of the list; the empty one past its end, which no contained id reaches
abbrev pub file_at : List NamedText → ℕ → NamedText
file_at files id = slice_index_or files id (record { name = []; text = [] })

-- the name of the file with the id
abbrev pub name_of : List NamedText → ℕ → List ℕ
name_of files id = (file_at files id).name

-- the source of the file with the id
abbrev pub text_of : List NamedText → ℕ → List ℕ
text_of files id = (file_at files id).text

-- the list with another source in the file with the id, and all else as it was
abbrev pub with_text : List NamedText → ℕ → List ℕ → List NamedText
with_text files id text = slice_set files id (record { name = name_of files id; text = text })
