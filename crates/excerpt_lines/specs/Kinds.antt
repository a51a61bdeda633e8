-- What each kind of line is.
use Rattle.std.specs.Prelude.{◌≡◌, ℕ, ◌+◌, true, if◌then◌else◌, List, length, drop, slice_index, Option, Some, None, IsSome, SomeIndex, codes}
use Rattle.excerpt_lines.specs.declared.tables.CharClass.{CharClass}
use Rattle.excerpt_lines.specs.declared.tables.CharClass.TheVariants.{Blank, Caret, Frame as FrameClass, Loose as LooseClass}
use Rattle.excerpt_lines.specs.declared.kinds.LineKind.{LineKind}
use Rattle.excerpt_lines.specs.declared.kinds.LineKind.TheVariants.{Empty, Place, Note, Row, Marks, Space, Inserted, Loose, Frame, Plain}
use Rattle.excerpt_lines.specs.Tables.{begins, is_in}
use Rattle.excerpt_lines.specs.Runs.{EachIn, run_end}
use Rattle.excerpt_lines.specs.Gutter.{HasNoGutter, IsGutter, lead_len, text_at}
use Rattle.excerpt_lines.specs.Places.{HasNoPlace, IsPlace, note_in}

-- all characters from a place on are of a class
abbrev pub IsAll : CharClass → List ℕ → ℕ → Type 0
IsAll class line at = EachIn class line at (length line)

abbrev pub SomeIn : List ℕ → Type 0
SomeIn line = SomeIndex line (λ k. is_in Caret (slice_index line k) ≡ true)

-- where the text of a new row begins, after `+++ |+`
unfoldable pub inserted_in : List ℕ → Option ℕ
inserted_in line = let start = run_end Blank line (lead_len line) in if begins (drop start line) (codes "+++ |+") then Some (start + 6) else None

-- neither blanks alone, nor a place, nor a note
pub record IsOther (line : List ℕ) : Type 0 where
  pub filled : IsAll Blank line 0 → ⊥
  pub no_place : HasNoPlace line
  pub no_note : note_in line ≡ None

-- and no part of a drawing with a gutter
pub record IsBare (line : List ℕ) : Type 0 where
  pub other : IsOther line
  pub no_gutter : HasNoGutter line
  pub not_inserted : inserted_in line ≡ None

abbrev pub IsLoose : List ℕ → Type 0
IsLoose line = IsAll LooseClass line 0 × SomeIn line

abbrev pub IsKind : List ℕ → LineKind → Type 0
IsKind line Empty = IsAll Blank line 0
IsKind line (Place p) = (IsAll Blank line 0 → ⊥) × IsPlace line p
IsKind line (Note n) = (IsAll Blank line 0 → ⊥) × HasNoPlace line × (note_in line ≡ Some n)
IsKind line (Row g) = IsOther line × IsGutter line g × IsSome g.number
IsKind line (Marks g) = IsOther line × IsGutter line g × (g.number ≡ None) × (IsAll Blank line (text_at line g.bar) → ⊥)
IsKind line (Space g) = IsOther line × IsGutter line g × (g.number ≡ None) × IsAll Blank line (text_at line g.bar)
IsKind line (Inserted text) = IsOther line × HasNoGutter line × (inserted_in line ≡ Some text)
IsKind line Loose = IsBare line × IsLoose line
IsKind line Frame = IsBare line × IsAll FrameClass line 0 × (IsLoose line → ⊥)
IsKind line Plain = IsBare line × (IsAll FrameClass line 0 → ⊥) × (IsLoose line → ⊥)
