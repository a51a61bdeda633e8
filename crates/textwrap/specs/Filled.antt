-- A text filled to a width.
use Rattle.std.specs.Prelude.{◌≡◌, ◌==◌, ℕ, ◌-◌, List, [], ◌∷◌, ◌++◌, take, drop, replicate}
use Rattle.std.specs.List.{flat_map, slice_split}
use Rattle.textwrap.specs.Width.{display_width}
use Rattle.textwrap.specs.Pieces.{PieceView, pieces}
use Rattle.textwrap.specs.Lines.{AreLines, first_fit}

abbrev pub spaces : ℕ → List ℕ
spaces n = replicate n 0x20

-- the cells that an indent leaves to its line
unfoldable pub room : ℕ → List ℕ → ℕ
room width indent = width - display_width indent

-- the pieces of a line in their order, with the gaps between them; the gap behind the last is dropped
unfoldable pub line_text : List PieceView → List ℕ
line_text [] = []
line_text (p ∷ []) = p.text
line_text (p ∷ next ∷ more) = p.text ++ spaces p.gap ++ line_text (next ∷ more)

-- pieces in lines of so many pieces each, with an indent before each line
unfoldable pub lines_of : List ℕ → List ℕ → List PieceView → List ℕ → List (List ℕ)
lines_of first later pieces [] = []
lines_of first later pieces (n ∷ counts) = (first ++ line_text (take n pieces)) ∷ lines_of later later (drop n pieces) counts

-- the lines of a part: where it has no pieces, one line of its indent alone
abbrev pub part_lines : List ℕ → List ℕ → List PieceView → List ℕ → List (List ℕ)
part_lines first later [] counts = first ∷ []
part_lines first later (p ∷ more) counts = lines_of first later (p ∷ more) counts

-- lines joined by LF
unfoldable pub joined_by_breaks : List (List ℕ) → List ℕ
joined_by_breaks lines = drop 1 (flat_map (λ line. 0x0A ∷ line) lines)

-- the parts of a text between LFs
abbrev pub parts_of : List ℕ → List (List ℕ)
parts_of text = slice_split (λ byte. byte == 0x0A) text

-- lines are a part laid out in a division of its pieces
abbrev pub IsPartFilled : ℕ → List ℕ → List ℕ → List ℕ → List (List ℕ) → Type 0
IsPartFilled width first later part lines =
    let list = pieces (room width later) part in
    (counts : List ℕ) × (AreLines (room width first) (room width later) list counts × (lines ≡ part_lines first later list counts))

-- lines are parts laid out one after another
abbrev pub ArePartsFilled : ℕ → List ℕ → List ℕ → List (List ℕ) → List (List ℕ) → Type 0
ArePartsFilled width first later [] lines = lines ≡ []
ArePartsFilled width first later (part ∷ parts) lines =
    (own : List (List ℕ)) × ((rest : List (List ℕ)) × (IsPartFilled width first later part own × (ArePartsFilled width later later parts rest × (lines ≡ own ++ rest))))

-- a text is another one filled to a width, with an indent before its first line and one before all later lines
abbrev pub IsFilled : ℕ → List ℕ → List ℕ → List ℕ → List ℕ → Type 0
IsFilled width first later text filled = (lines : List (List ℕ)) × (ArePartsFilled width first later (parts_of text) lines × (filled ≡ joined_by_breaks lines))

-- the lines of a part, computed
unfoldable pub filled_part : ℕ → List ℕ → List ℕ → List ℕ → List (List ℕ)
filled_part width first later part =
    let list = pieces (room width later) part in
    part_lines first later list (first_fit (room width first) (room width later) list)

-- the text of a part behind others, with a break before it
unfoldable pub later_part : ℕ → List ℕ → List ℕ → List ℕ
later_part width later part = 0x0A ∷ joined_by_breaks (filled_part width later later part)

-- the lines of parts, computed
unfoldable pub filled_parts : ℕ → List ℕ → List ℕ → List (List ℕ) → List (List ℕ)
filled_parts width first later [] = []
filled_parts width first later (part ∷ parts) = filled_part width first later part ++ filled_parts width later later parts

-- the filled text, computed
unfoldable pub filled : ℕ → List ℕ → List ℕ → List ℕ → List ℕ
filled width first later text = joined_by_breaks (filled_parts width first later (parts_of text))

-- the law: there is one filled text
abbrev pub HasOneFilling : ℕ → List ℕ → List ℕ → List ℕ → Type 0
HasOneFilling width first later text = (a b : List ℕ) → IsFilled width first later text a → IsFilled width first later text b → a ≡ b
