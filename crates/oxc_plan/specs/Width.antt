-- How many columns a text takes: the sum of the advances of its characters. `tab` is the distance of the tab stops.
use Rattle.std.specs.Prelude.{ℕ, ◌+◌, ◌-◌, ◌%◌, nat_lt, nat_le, ◌==◌, ◌&&◌, ◌||◌, Bool, true, false, not, List, [], ◌∷◌, fold, map, if◌then◌else◌}
use Rattle.std.specs.List.{flat_map}
use Rattle.std.specs.Str.{chars}
use Rattle.unicode_segmentation.specs.Grapheme.{graphemes}
use Rattle.unicode_width.specs.Width.{str_width}
use Rattle.oxc_plan.specs.declared.columns.Pen.{Pen}

-- a character from U+0000 to U+001F or from U+007F to U+009F
abbrev pub is_control : ℕ → Bool
is_control c = nat_lt c 0x20 || (nat_le 0x7F c && nat_lt c 0xA0)

-- the advance of a character at a column: none inside an escape; a tab goes to the next stop; ESC has none; another
-- control has one; any other has `lead`, the width of its cluster if it is the cluster's first character, and 0 if not
abbrev pub advance_of : ℕ → Bool → ℕ → ℕ → ℕ → ℕ
advance_of tab in_escape column lead c =
    if in_escape then 0
    else if c == 0x09 then tab - column % tab
    else if c == 0x1B then 0
    else if is_control c then 1
    else lead

-- whether an escape is unfinished after the character: ESC opens one, and `m` ends it
abbrev pub stays_in_escape : Bool → ℕ → Bool
stays_in_escape in_escape c = if in_escape then not (c == 0x6D) else c == 0x1B

-- characters, the first with a number and the others with 0
abbrev pub with_lead : ℕ → List ℕ → List (ℕ × ℕ)
with_lead lead [] = []
with_lead lead (c ∷ cs) = (lead, c) ∷ with_lead 0 cs

-- the characters of a cluster, the first with the cluster's width
abbrev pub led : List ℕ → List (ℕ × ℕ)
led cluster = with_lead (str_width false (chars cluster)) (chars cluster)

-- the characters of a text, by its clusters
abbrev pub led_text : List ℕ → List (ℕ × ℕ)
led_text text = flat_map led (graphemes true text)

-- the pen after a character
abbrev pub moved : ℕ → Pen → ℕ × ℕ → Pen
moved tab pen (lead, c) = record { column = pen.column + advance_of tab pen.in_escape pen.column lead c; in_escape = stays_in_escape pen.in_escape c }

-- the pen at a row's first column
abbrev pub at_margin : Pen
at_margin = record { column = 0; in_escape = false }

-- the columns of a text
unfoldable pub text_width : ℕ → List ℕ → ℕ
text_width tab text = (fold (moved tab) at_margin (led_text text)).column

-- the pen after bytes of ASCII
unfoldable pub pen_after : ℕ → Pen → List ℕ → Pen
pen_after tab pen bytes = fold (moved tab) pen (map {B = ℕ × ℕ} (λ byte. (1, byte)) bytes)
