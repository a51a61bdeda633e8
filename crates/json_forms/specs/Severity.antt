-- How severe a finding is.
use Rattle.std.specs.Prelude.{ℕ, List, [], ◌∷◌, if◌then◌else◌, Option, Some, None, option_map, unwrap_or, map, find, take}
use Rattle.std.specs.Option.{option_or}
use Rattle.std.specs.Borrow.{Bor}
use Rattle.std.specs.Str.{str_eq_ignore_ascii_case}
use Rattle.oxc_protocol.specs.declared.protocol.Severity.{Severity}
use Rattle.oxc_protocol.specs.declared.protocol.Severity.TheVariants.{Error}
use Rattle.json_spots.specs.Spot.{Spot}
use Rattle.json_forms.specs.declared.form.Row.{Row}
use Rattle.json_forms.specs.declared.form.Row.TheVariants.{Part, Only, Aside, Level, Constant}
use Rattle.json_forms.specs.declared.severity.TheConstants.{WORDS}
use Rattle.json_forms.specs.declared.keys.TheConstants as keys
use Rattle.json_forms.specs.Rows.{part, constant, is_said}
use Rattle.json_forms.specs.Said.{text_at}

-- what the first of these words means that the text is, in any case
abbrev pub among : List (List ℕ × Severity) → List ℕ → Option Severity
among table text = option_map (λ word. word.1) (find (λ word. str_eq_ignore_ascii_case word.0 text) table)

abbrev pub words_view : List (Bor (List ℕ) × Severity) → List (List ℕ × Severity)
words_view table = map (λ word. (word.0.now, word.1)) table

unfoldable pub known_words : List (List ℕ × Severity)
known_words = map (λ word. (word.0.now, word.1)) WORDS

-- a word that isn't known is an error
abbrev pub known : List ℕ → Severity
known text = unwrap_or (among known_words text) Error

abbrev pub row_level : List ℕ → Row → Option Severity
row_level text (Part own paths) = None
row_level text (Only guard) = None
row_level text (Aside guard) = None
row_level text (Level words) = among (words_view words.items) text
row_level text (Constant own word) = None

abbrev pub own : List Row → List ℕ → Option Severity
own [] text = None
own (row ∷ rows) text = option_or (row_level text row) (own rows text)

-- by the list's own words, then by those of all
abbrev pub named : List Row → List ℕ → Severity
named rows text = unwrap_or (own rows text) (known text)

abbrev pub said_word : List Row → List ℕ → List ℕ
said_word rows text = if is_said rows keys.AS.now keys.LETTER.now then take 1 text else text

abbrev pub default_among : Option (List ℕ) → Severity
default_among None = Error
default_among (Some name) = known name

abbrev pub default_of : List Row → Severity
default_of rows = default_among (constant rows keys.DEFAULT.now)

abbrev pub severity_said : List Row → Option (List ℕ) → Severity
severity_said rows None = default_of rows
severity_said rows (Some text) = named rows (said_word rows text)

abbrev pub severity_of : List Row → Spot → Severity
severity_of rows spot = severity_said rows (text_at (part rows keys.SEVERITY.now) spot)
