-- What the lines behind a finding add to it.
use Rattle.std.specs.Prelude.{ℕ, ◌+◌, ◌-◌, ◌==◌, ◌||◌, ◌&&◌, not, nat_le, nat_lt, if◌then◌else◌, Bool, false, List, [], ◌∷◌, ◌++◌, length, take, drop, slice_index, Option, Some, None, codes, unwrap_or}
use Rattle.std.specs.Option.{is_none, is_some}
use Rattle.std.specs.List.{prefix_len, filter_map}
use Rattle.line_shapes.specs.declared.bytes.Kind.TheVariants.{Digit}
use Rattle.tool_lines.specs.declared.details.Way.{Way}
use Rattle.tool_lines.specs.declared.details.Way.TheVariants.{Plain, Symbol, Noted, Unrowed}
use Rattle.tool_lines.specs.declared.lines.Sort.{Sort}
use Rattle.tool_lines.specs.declared.lines.Sort.TheVariants.{Kept, Heading, Below, Announced, Inline, Spaced}
use Rattle.line_shapes.specs.Bytes.{is_in, trimmed}
pub use Rattle.tool_lines.specs.Marks.{unled}
use Rattle.tool_lines.specs.Marks.{are_marks, gutter, is_fix}

abbrev pub is_bare_behind : List ℕ → Option ℕ → Bool
is_bare_behind line None = false
is_bare_behind line (Some end) = length (unled (drop end line)) == 0

-- a line is a gutter and no more
abbrev pub is_bare : List ℕ → Bool
is_bare line = is_bare_behind line (gutter line)

abbrev pub plain_text : List ℕ → Option (List ℕ)
plain_text line = if length (trimmed (unled line)) == 0 || is_bare line || is_fix line then None else Some (trimmed (unled line))

abbrev pub is_small : ℕ → Bool
is_small byte = nat_le 0x61 byte && nat_le byte 0x7A

abbrev pub symbol_by : List ℕ → List ℕ → Option (List ℕ)
symbol_by line [] = None
symbol_by line (a ∷ []) = None
symbol_by line (a ∷ (b ∷ [])) = None
symbol_by line (a ∷ (b ∷ (c ∷ rest))) = if a == 0x20 then (if b == 0x20 then (if is_small c then Some (trimmed (unled line)) else None) else None) else None

-- of a line of two spaces and a small letter, its text
abbrev pub symbol_text : List ℕ → Option (List ℕ)
symbol_text line = symbol_by line line

abbrev pub after_front : List ℕ → List ℕ → Option (List ℕ)
after_front [] text = Some text
after_front (p ∷ ps) [] = None
after_front (p ∷ ps) (x ∷ xs) = if x == p then after_front ps xs else None

abbrev pub first_front : Option (List ℕ) → Option (List ℕ) → Option (List ℕ)
first_front None other = other
first_front (Some rest) other = Some rest

-- the text after what rustc has before the notes of a finding: `= `, `├ ` or `╰ `
abbrev pub behind_leader : List ℕ → Option (List ℕ)
behind_leader text =
    first_front (after_front (codes "= ") text)
    (first_front (after_front (0xE2 ∷ 0x94 ∷ 0x9C ∷ 0x20 ∷ []) text) (after_front (0xE2 ∷ 0x95 ∷ 0xB0 ∷ 0x20 ∷ []) text))

-- a line without blanks and one of these at its beginning
abbrev pub unequalled : List ℕ → List ℕ
unequalled line = unwrap_or (behind_leader (unled line)) line

-- what stands behind `note: ` or `help: `
abbrev pub note_of : List ℕ → Option (List ℕ)
note_of text = first_front (after_front (codes "note: ") text) (after_front (codes "help: ") text)

abbrev pub note_text : List ℕ → Option (List ℕ)
note_text line = note_of (unequalled line)

-- a line is drawn: it has a gutter, begins with a number, or is markers
abbrev pub is_drawn : List ℕ → Bool
is_drawn line = are_marks line || is_some (gutter line) || is_in Digit (slice_index (unled line) 0)

abbrev pub unrowed_text : List ℕ → Option (List ℕ)
unrowed_text line = if is_drawn line then None else plain_text line

-- what a line adds
unfoldable pub detail : Way → List ℕ → Option (List ℕ)
detail Plain line = plain_text line
detail Symbol line = symbol_text line
detail Noted line = note_text line
detail Unrowed line = unrowed_text line

-- the lines behind the last marks, or these
abbrev pub behind_from : List (List ℕ) → List (List ℕ) → List (List ℕ)
behind_from others [] = others
behind_from others (line ∷ lines) = behind_from (if are_marks line then lines else others) lines

-- the number of the first marks among lines of which the first has this number
abbrev pub marks_from : ℕ → List (List ℕ) → Option ℕ
marks_from n [] = None
marks_from n (line ∷ lines) = if are_marks line then Some n else marks_from (n + 1) lines

abbrev pub inline_by : List (List ℕ) → Option ℕ → List (List ℕ)
inline_by lines None = filter_map (detail Plain) lines
inline_by lines (Some at) = filter_map (detail Plain) (take (at - 1) lines) ++ filter_map (detail Symbol) (behind_from [] lines)

-- what a trail adds
abbrev pub inline_details : List (List ℕ) → List (List ℕ)
inline_details lines = inline_by lines (marks_from 0 lines)

-- what the lines behind the first one of a piece add to its finding
abbrev pub details_of : Sort → List (List ℕ) → List (List ℕ)
details_of Inline lines = inline_details lines
details_of Announced lines = filter_map (detail Noted) (drop 1 lines)
details_of Spaced lines = filter_map (detail Unrowed) lines
details_of Kept lines = []
details_of Heading lines = []
details_of Below lines = []

-- the column of the first `^` of marks below a row, where neither has a gutter
abbrev pub caret_in : List ℕ → List ℕ → Option ℕ
caret_in row marks =
    let column = prefix_len (λ byte. not (byte == 0x5E)) marks in
    if nat_lt column (length marks) && is_none (gutter marks) && is_none (gutter row) then Some column else None

-- the first of some lines, if it is marks
abbrev pub first_marks : List (List ℕ) → Option (List ℕ)
first_marks [] = None
first_marks (line ∷ lines) = if are_marks line then Some line else None

abbrev pub caret_or : List ℕ → Option (List ℕ) → Option ℕ → Option ℕ
caret_or row (Some marks) later = caret_in row marks
caret_or row None later = later

-- the same of the first marks among lines, below another line
abbrev pub caret_from : List (List ℕ) → Option ℕ
caret_from [] = None
caret_from (row ∷ lines) = caret_or row (first_marks lines) (caret_from lines)

-- a caret wants a row above it
abbrev pub first_caret : List (List ℕ) → Option ℕ
first_caret [] = None
first_caret (line ∷ lines) = if are_marks line then None else caret_from (line ∷ lines)

abbrev pub caret_at : Sort → List (List ℕ) → Option ℕ
caret_at Inline lines = first_caret lines
caret_at Announced lines = None
caret_at Spaced lines = None
caret_at Kept lines = None
caret_at Heading lines = None
caret_at Below lines = None
