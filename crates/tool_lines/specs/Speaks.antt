-- When a message alone makes a finding of a line that has a place.
use Rattle.std.specs.Prelude.{ℕ, ◌-◌, ◌==◌, ◌&&◌, ◌||◌, not, nat_lt, Bool, false, List, [], ◌∷◌, length, take, drop, slice_index, Option, Some, None, codes}
use Rattle.std.specs.List.{list_any, suffix_len}
use Rattle.std.specs.Option.{is_some}
use Rattle.line_shapes.specs.declared.bytes.Kind.TheVariants.{Blank, Digit, LetterOrDigit, InBrackets}
use Rattle.line_shapes.specs.declared.tables.Manner.{Manner}
use Rattle.line_shapes.specs.Bytes.{is_in, is_letter, begins_with, before_last}
use Rattle.line_shapes.specs.Part.{Seen}
use Rattle.line_shapes.specs.Place.{Place}
use Rattle.line_shapes.specs.Said.{is_alone}

-- two spaces stand before a place of a line
abbrev pub is_wide : List ℕ → ℕ → Bool
is_wide line at = slice_index line (at - 1) == 0x20 && slice_index line (at - 2) == 0x20

-- a parenthesis, a colon and a byte stand before a place of a line
abbrev pub is_parenthesized : List ℕ → ℕ → Bool
is_parenthesized line at = slice_index line (at - 3) == 0x29 && slice_index line (at - 2) == 0x3A

abbrev pub ends_in_digit : List ℕ → Bool
ends_in_digit name = is_in Digit (slice_index name (length name - 1))

abbrev pub is_extension : List ℕ → Bool
is_extension [] = false
is_extension (x ∷ xs) = is_letter x

-- letters and digits stand at the end behind a dot, a letter first
abbrev pub has_extension : List ℕ → Bool
has_extension name = let at = length name - suffix_len (is_in LetterOrDigit) name in is_some (before_last 0x2E (take at name)) && is_extension (drop at name)

abbrev pub is_numbered_name : List ℕ → Bool
is_numbered_name name = ends_in_digit name && not (has_extension name)

-- a name has no blank, and doesn't end in a digit but in an extension
abbrev pub is_plain_name : List ℕ → Bool
is_plain_name name = not (list_any (is_in Blank) name) && not (is_numbered_name name)

abbrev pub has_more : List ℕ → ℕ → Bool
has_more text at = slice_index text at == 0x2F && nat_lt at (length text - 1)

abbrev pub is_whole_or_more : List ℕ → ℕ → Bool
is_whole_or_more text at = length text == at || has_more text at

-- a text is a word, or the word, `/` and more
abbrev pub tells : List ℕ → List ℕ → Bool
tells text word = begins_with text word && is_whole_or_more text (length word)

abbrev pub is_level : List ℕ → Bool
is_level text = tells text (codes "error") || tells text (codes "warning")

abbrev pub opens_level : List ℕ → Bool
opens_level inner = let at = length inner - suffix_len (is_in InBrackets) inner in is_some (before_last 0x5B (take at inner)) && is_level (drop at inner)

abbrev pub opens_by : Option (List ℕ) → Bool
opens_by None = false
opens_by (Some inner) = opens_level inner

-- a message ends in brackets that hold `error` or `warning`, with `/` and a code or without
abbrev pub ends_in_level : List ℕ → Bool
ends_in_level message = opens_by (before_last 0x5D message)

abbrev pub names_by : Option (List ℕ) → Bool
names_by None = false
names_by (Some message) = ends_in_level message

abbrev pub names_level : Seen → Bool
names_level s = names_by s.message

abbrev pub is_plainly_placed : List ℕ → ℕ → List ℕ → Bool
is_plainly_placed line at name = not (is_parenthesized line at) && is_plain_name name

-- a message names a level, or stands behind a place and a name that are plain
abbrev pub is_telling : List ℕ → ℕ → List ℕ → Seen → Bool
is_telling line at name s = names_level s || is_plainly_placed line at name

-- a message alone makes a finding of the line
abbrev pub speaks_alone : List ℕ → Place → Seen → Bool
speaks_alone line p s = let at = length line - length p.found.rest in not (is_wide line at) && is_telling line at p.name s

-- what was found behind the place of a line makes a finding of it
abbrev pub speaks : List ℕ → Place → Seen → Manner → Bool
speaks line p s manner = not (is_alone manner) || is_some p.found.severity || speaks_alone line p s
