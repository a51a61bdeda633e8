-- The text of a row as it is drawn: each tab as its advance in spaces, all else as it is.
use Rattle.std.specs.Prelude.{ℕ, ◌-◌, ◌%◌, ◌==◌, ◌≢◌, All, List, [], ◌∷◌, ◌++◌, encode_utf8, if◌then◌else◌}
use Rattle.std.specs.Str.{IsAscii}
use Rattle.oxc_plan.specs.declared.columns.Pen.{Pen}
use Rattle.oxc_plan.specs.Width.{at_margin, led_text, moved}
use Rattle.oxc_handlers.specs.Cells.{repeated}

-- a character as it is drawn: in an escape a tab is nothing
unfoldable pub shown_char : ℕ → Pen → ℕ → List ℕ
shown_char tab pen c =
    if c == 0x09 then (if pen.in_escape then [] else repeated (tab - pen.column % tab) (encode_utf8 0x20))
    else encode_utf8 c

-- characters one after another, each with the width of its cluster or 0
unfoldable pub shown_from : ℕ → Pen → List (ℕ × ℕ) → List ℕ
shown_from tab pen [] = []
shown_from tab pen (p ∷ more) = shown_char tab pen p.1 ++ shown_from tab (moved tab pen p) more

-- the drawn text, where tabs stop at multiples of `tab` columns
unfoldable pub shown_text : ℕ → List ℕ → List ℕ
shown_text tab text = shown_from tab at_margin (led_text text)

-- a text of ASCII in which no escape begins
abbrev pub IsAsciiWithoutEscapes : List ℕ → Type 0
IsAsciiWithoutEscapes text = IsAscii text × All (λ byte. byte ≢ 0x1B) text
