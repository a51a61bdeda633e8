-- Level words, and how grave what has them is.
use Rattle.std.specs.Prelude.{ℕ, ◌==◌, ◌&&◌, ◌||◌, not, if◌then◌else◌, Bool, List, [], ◌∷◌, length, map, slice_index, Option, Some, None}
use Rattle.line_shapes.specs.declared.bytes.Kind.TheVariants.{Word}
use Rattle.line_shapes.specs.declared.level.Severity.{Severity}
use Rattle.line_shapes.specs.declared.level.Severity.TheVariants.{Error, Warning, Advice}
use Rattle.line_shapes.specs.declared.level.Level.{Level}
use Rattle.line_shapes.specs.declared.tables.TheConstants.{LEVEL_WORDS}
use Rattle.line_shapes.specs.Bytes.{begins_with, is_in}

-- a word stands at the beginning of a text, and no letter, digit, `_` or `-` behind it
abbrev pub stands : List ℕ → List ℕ → Bool
stands text word = let next = slice_index text (length word) in begins_with text word && not (is_in Word next || next == 0x2D)

-- the level of the first of these words that stands at the beginning of a text
abbrev pub level_among : List (List ℕ × Severity × Bool) → List ℕ → Option Level
level_among [] text = None
level_among (word ∷ words) text = if stands text word.0 then Some (record { length = length word.0; severity = word.1; aside = word.2 }) else level_among words text

unfoldable pub level_words : List (List ℕ × Severity × Bool)
level_words = map (λ word. (word.0.now, word.1, word.2)) LEVEL_WORDS

abbrev pub level_at : List ℕ → Option Level
level_at text = level_among level_words text

abbrev pub letter_severity : ℕ → Option Severity
letter_severity letter =
    if letter == 0x45 || letter == 0x46 then Some Error else if letter == 0x57 || letter == 0x4E then Some Warning else if letter == 0x43 || letter == 0x52 || letter == 0x49 then Some Advice else None

abbrev pub small_severity : ℕ → Option Severity
small_severity letter = if letter == 0x65 then Some Error else if letter == 0x77 then Some Warning else if letter == 0x69 then Some Advice else None
