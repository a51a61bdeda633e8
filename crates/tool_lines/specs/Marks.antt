-- Lines that belong to others: marks, gutters, and what is indented.
use Rattle.std.specs.Prelude.{ℕ, ◌+◌, ◌-◌, ◌==◌, ◌&&◌, ◌||◌, not, nat_eq, nat_le, nat_lt, if◌then◌else◌, Bool, false, List, [], ◌∷◌, length, drop, slice_index, Option, Some, None, codes}
use Rattle.std.specs.List.{prefix_len, list_all, list_any, starts_with}
use Rattle.line_shapes.specs.declared.bytes.Kind.TheVariants.{Blank, Digit, Space}
use Rattle.line_shapes.specs.Bytes.{is_in}
use Rattle.line_shapes.specs.Name.{is_angle}
use Rattle.line_shapes.specs.Part.{before}
use Rattle.line_shapes.specs.Place.{is_mark}
use Rattle.line_shapes.specs.Said.{code_behind, said}
use Rattle.std.specs.Option.{is_some, option_and_then}

abbrev pub begins_blank : List ℕ → Bool
begins_blank [] = false
begins_blank (x ∷ xs) = is_in Blank x

-- a text without the blanks at its beginning
abbrev pub unled : List ℕ → List ℕ
unled text = drop (prefix_len (is_in Blank) text) text

-- the first byte of a line that is no blank, or 0
abbrev pub first_ink : List ℕ → ℕ
first_ink line = slice_index (unled line) 0

-- a location may end with a byte
abbrev pub closes_with : ℕ → Bool
closes_with byte = byte == 0x3A || is_in Digit byte

-- a line ends as a location does
abbrev pub closes : List ℕ → Bool
closes line = closes_with (slice_index line (length line - 1))

-- an arrow other than `-->` may begin with a byte
abbrev pub may_lead : ℕ → Bool
may_lead byte = byte == 0xE2 || byte == 0x2C || byte == 0x3A

-- an arrow may begin with a byte
abbrev pub may_point : ℕ → Bool
may_point byte = byte == 0x2D || may_lead byte

-- what has the location of the line before it may begin with a byte
abbrev pub may_place : ℕ → Bool
may_place byte = is_in Digit byte || may_point byte

-- a byte of a word that is no mark of what stands behind a name
abbrev pub is_inner : ℕ → Bool
is_inner byte = not (is_in Blank byte) && not (is_mark byte)

-- the first word of a text is no name with a place: it has no angle at its beginning, and no such mark
abbrev pub names_nothing : List ℕ → Bool
names_nothing text = not (is_angle text) && not (is_mark (slice_index text (prefix_len is_inner text)))

-- an indented line whose first word is no name with a place
abbrev pub is_inset : List ℕ → Bool
is_inset line = begins_blank line && names_nothing (unled line)

-- how long blanks, digits, blanks and a `|` are that a line begins with
abbrev pub gutter : List ℕ → Option ℕ
gutter line =
    let blanks = prefix_len (is_in Blank) line in
    let digits = prefix_len (is_in Digit) (drop blanks line) in
    let end = blanks + digits + prefix_len (is_in Blank) (drop (blanks + digits) line) in
    if slice_index line end == 0x7C then Some (end + 1) else None

-- a line begins with digits, spaces and a `|`
abbrev pub is_numbered : List ℕ → Bool
is_numbered line =
    let digits = prefix_len (is_in Digit) line in
    let spaces = prefix_len (is_in Space) (drop digits line) in
    nat_le 1 digits && nat_le 1 spaces && (slice_index line (digits + spaces) == 0x7C)

abbrev pub is_caret : ℕ → Bool
is_caret byte = byte == 0x5E || byte == 0x7E

abbrev pub is_mark_byte : ℕ → Bool
is_mark_byte byte = byte == 0x20 || byte == 0x09 || byte == 0x5E || byte == 0x7E || byte == 0x2D || byte == 0x2B || byte == 0x5F || byte == 0x3D

-- marks, and a caret among them
abbrev pub body : List ℕ → Bool
body text = list_all is_mark_byte text && list_any is_caret text

abbrev pub starts_marks : List ℕ → Bool
starts_marks [] = false
starts_marks (x ∷ xs) = is_in Blank x || is_caret x

abbrev pub marks_behind : List ℕ → Option ℕ → Bool
marks_behind line None = starts_marks line && body line
marks_behind line (Some end) = body (drop end line)

-- a line marks a place of the row above it
abbrev pub are_marks : List ℕ → Bool
are_marks line = marks_behind line (gutter line)

-- a line is indented text, and no marks
abbrev pub is_text : List ℕ → Bool
is_text line = begins_blank line && nat_lt (prefix_len (is_in Blank) line) (length line) && not (are_marks line)

-- an edit, as gcc and clang print it below a finding: `fix-it:"a.c":{5:8-5:14}:"color"`
abbrev pub is_fix : List ℕ → Bool
is_fix line = starts_with nat_eq line (codes "fix-it:\"")

-- how gcc and clang came to a file: `In file included from a.c:1:`
abbrev pub is_include : List ℕ → Bool
is_include line = starts_with nat_eq line (codes "In file included from ")

-- a code has two blanks between it and the text before it
abbrev pub is_apart : List ℕ → Option (List ℕ × List ℕ) → Bool
is_apart line None = false
is_apart line (Some parts) = nat_le (length parts.1 + 4) (length line - length parts.0)

-- a line of more than brackets that begins with one and ends with one
abbrev pub is_boxed : List ℕ → Bool
is_boxed [] = false
is_boxed (x ∷ []) = false
is_boxed (x ∷ (y ∷ rest)) = x == 0x5B && (slice_index (y ∷ rest) (length (y ∷ rest) - 1) == 0x5D)

-- a line is the end of a message: it has a code at its end, two blanks before it or nothing
abbrev pub ends_message : List ℕ → Bool
ends_message line = is_boxed line || is_apart line (code_behind false line)

abbrev pub is_deep : Option (List ℕ) → Bool
is_deep None = false
is_deep (Some next) = starts_with nat_eq next (codes "    ")

-- a line goes on with the message of the line before it, and a row follows, as `mypy --pretty` prints it
abbrev pub wraps : List ℕ → Option (List ℕ) → Bool
wraps line next = ends_message line && is_deep next

-- a line begins with a blank, or with a number and a blank, as rows of a source do
abbrev pub is_row : List ℕ → Bool
is_row line = let digits = prefix_len (is_in Digit) line in begins_blank line || (nat_le 1 digits && is_in Blank (slice_index line digits))

abbrev pub row_follows : Option (List ℕ) → Bool
row_follows None = false
row_follows (Some next) = is_row next

-- a line has a message with a level word before it
abbrev pub says_level : List ℕ → Bool
says_level line = is_some (option_and_then (λ it. it.0.severity) (said (before line)))

-- a line belongs to a finding from which an empty line parts it: an empty line above a row, a row, or a message with its level
abbrev pub stands_apart : List ℕ → Option (List ℕ) → Bool
stands_apart line next = if length line == 0 then row_follows next else is_row line || says_level line
