-- A line with its items.
use Rattle.std.specs.Prelude.{◌≡◌, ℕ, min, Bool, true, false, List, ◌++◌, length, All}
use Rattle.excerpt_lines.specs.declared.items.Part.{Part}
use Rattle.excerpt_lines.specs.declared.items.Part.TheVariants.{Gutter, Row, Mark, Bar, Link, Hook, Text, Whole, Lead}
use Rattle.excerpt_lines.specs.declared.items.Item.{Item}
use Rattle.excerpt_lines.specs.declared.kinds.LineKind.{LineKind}
use Rattle.excerpt_lines.specs.declared.kinds.LineKind.TheVariants.{Empty, Place, Note, Row as RowLine, Marks, Space, Inserted, Loose, Frame, Plain}
use Rattle.excerpt_lines.specs.Gutter.{text_at}
use Rattle.excerpt_lines.specs.Items.{Covers}

-- what may come before the text of a line
abbrev pub is_front : Part → Bool
is_front Gutter = true
is_front Row = false
is_front (Mark class) = false
is_front Bar = false
is_front Link = false
is_front (Hook rest) = false
is_front Text = false
is_front Whole = false
is_front Lead = true

-- the parts of a line that is a part as a whole
abbrev pub is_whole : Part → Bool
is_whole Gutter = false
is_whole Row = false
is_whole (Mark class) = false
is_whole Bar = false
is_whole Link = false
is_whole (Hook rest) = false
is_whole Text = false
is_whole Whole = true
is_whole Lead = false

-- of a row
abbrev pub is_row : Part → Bool
is_row Gutter = true
is_row Row = true
is_row (Mark class) = false
is_row Bar = false
is_row Link = false
is_row (Hook rest) = false
is_row Text = false
is_row Whole = false
is_row Lead = false

-- of a note
abbrev pub is_note : Part → Bool
is_note Gutter = false
is_note Row = false
is_note (Mark class) = false
is_note Bar = false
is_note Link = false
is_note (Hook rest) = false
is_note Text = false
is_note Whole = true
is_note Lead = true

-- of marks
abbrev pub is_marks : Part → Bool
is_marks Gutter = true
is_marks Row = false
is_marks (Mark class) = true
is_marks Bar = true
is_marks Link = true
is_marks (Hook rest) = true
is_marks Text = true
is_marks Whole = false
is_marks Lead = false

-- items that cover a line whose text begins at a place, all of some parts
pub record HasItems (line hung : List ℕ) (text : ℕ) (suits : Part → Bool) (items : List Item) : Type 0 where
  pub covers : Covers line text hung 0 items
  pub parts : All (λ item. suits item.part ≡ true) items

abbrev pub no_part : Part → Bool
no_part part = false

-- what a line of each kind is made of
abbrev pub IsRead : List ℕ → List ℕ → LineKind → List Item → Type 0
IsRead line hung Empty items = HasItems line hung 0 no_part items
IsRead line hung (Place p) items = HasItems line hung 0 is_whole items
IsRead line hung (Note n) items = HasItems line hung (min n.text (length line)) is_note items
IsRead line hung (RowLine g) items = HasItems line hung (text_at line g.bar) is_row items
IsRead line hung (Marks g) items = HasItems line hung (text_at line g.bar) is_marks items
IsRead line hung (Space g) items = HasItems line hung (text_at line g.bar) is_marks items
IsRead line hung (Inserted text) items = HasItems line hung (min text (length line)) is_row items
IsRead line hung Loose items = HasItems line hung 0 is_marks items
IsRead line hung Frame items = HasItems line hung 0 is_whole items
IsRead line hung Plain items = HasItems line hung 0 is_whole items

-- what comes before the text of a line
pub record IsFront (line : List ℕ) (part : Part) (text : ℕ) (items : List Item) : Type 0 where
  pub leads : (hung : List ℕ) (rest : List Item) → Covers line text hung text rest → Covers line text hung 0 (items ++ rest)
  pub parts : All (λ item. item.part ≡ part) items

-- the rest of a line is added, if it is not all blanks
pub record AddsWhole (line : List ℕ) (at : ℕ) (old new : List Item) : Type 0 where
  pub more : List Item
  pub added : new ≡ old ++ more
  pub covers : (hung : List ℕ) → Covers line at hung at more
  pub parts : All (λ item. is_whole item.part ≡ true) more
