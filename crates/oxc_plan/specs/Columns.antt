-- The column of an offset in a row, and what stands before it when the row is drawn.
use Rattle.std.specs.Prelude.{◌≡◌, ℕ, ◌+◌, ◌-◌, ◌%◌, ◌≤◌, nat_lt, nat_le, ◌==◌, ◌||◌, Bool, not, List, [], ◌∷◌, ◌++◌, length, replicate, take, drop, slice_index, zero, suc, if◌then◌else◌}
use Rattle.std.specs.List.{prefix_len}
use Rattle.std.specs.Str.{IsAscii}
use Rattle.oxc_plan.specs.declared.columns.Pen.{Pen}
use Rattle.oxc_plan.specs.Rows.{RowView}
use Rattle.oxc_plan.specs.Width.{moved, at_margin, led_text, text_width}

-- a byte that begins a character
abbrev pub is_char_start : ℕ → Bool
is_char_start byte = nat_lt byte 128 || nat_le 192 byte

-- the last boundary up to a place of a text
unfoldable pub boundary_down : List ℕ → ℕ → ℕ
boundary_down text zero = 0
boundary_down text (suc at) = if is_char_start (slice_index text (suc at)) then suc at else boundary_down text at

-- the first boundary from a place of a text on
unfoldable pub boundary_up : List ℕ → ℕ → ℕ
boundary_up text at = at + prefix_len (λ byte. not (is_char_start byte)) (drop at text)

-- the column of a place in a text: the width of what stands before it, measured alone. Inside a character a start goes
-- down to a boundary and an end goes up. Past the text it is the text's width plus one
unfoldable pub column_in : ℕ → List ℕ → ℕ → Bool → ℕ
column_in tab text place at_start =
    if nat_lt (length text) place then text_width tab text + 1
    else text_width tab (take (if at_start then boundary_down text place else boundary_up text place) text)

-- the column of an offset of the source in a row
abbrev pub column_at : ℕ → RowView → ℕ → Bool → ℕ
column_at tab row offset at_start = column_in tab row.text (offset - row.offset) at_start

-- what a character is drawn as, escapes aside: a tab as its advance in spaces, and nothing of an escape
abbrev pub drawn_char : ℕ → Pen → ℕ → List ℕ
drawn_char tab pen c =
    if pen.in_escape then []
    else if c == 0x09 then replicate (tab - pen.column % tab) 0x20
    else if c == 0x1B then []
    else c ∷ []

abbrev pub drawn_from : ℕ → Pen → List (ℕ × ℕ) → List ℕ
drawn_from tab pen [] = []
drawn_from tab pen (p ∷ ps) = drawn_char tab pen p.1 ++ drawn_from tab (moved tab pen p) ps

-- the characters of a drawn text, escapes aside
unfoldable pub drawn_text : ℕ → List ℕ → List ℕ
drawn_text tab text = drawn_from tab at_margin (led_text text)

-- the law: in a row of ASCII, the drawn text before an offset has as many characters as the offset's column
abbrev pub HasColumnsAsDrawn : ℕ → RowView → Type 0
HasColumnsAsDrawn tab row =
    IsAscii row.text
    → (offset : ℕ) (at_start : Bool) → row.offset ≤ offset → offset - row.offset ≤ length row.text
    → column_at tab row offset at_start ≡ length (drawn_text tab (take (offset - row.offset) row.text))
