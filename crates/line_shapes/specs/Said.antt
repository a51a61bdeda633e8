-- What a finding says: how grave it is, its code and its message.
use Rattle.std.specs.Prelude.{ℕ, ◌+◌, ◌-◌, ◌==◌, ◌&&◌, ◌||◌, not, nat_lt, nat_le, nat_eq, if◌then◌else◌, Bool, true, false, List, [], ◌∷◌, length, take, drop, map, slice_index, Option, Some, None, option_map, option_and_then, unwrap_or, codes}
use Rattle.std.specs.List.{suffix_len, list_all, list_any, prefix_len, ends_with}
use Rattle.std.specs.Option.{option_or}
use denote.Ref.{Bor}
use Rattle.line_shapes.specs.declared.bytes.Kind.{Kind}
use Rattle.line_shapes.specs.declared.bytes.Kind.TheVariants.{InBrackets, InParentheses, InCode, Joint}
use Rattle.line_shapes.specs.declared.level.Severity.{Severity}
use Rattle.line_shapes.specs.declared.level.Severity.TheVariants.{Error, Warning, Advice}
use Rattle.line_shapes.specs.declared.level.Level.{Level}
use Rattle.line_shapes.specs.declared.part.Part.{Part}
use Rattle.line_shapes.specs.declared.said.Statement.{Statement}
use Rattle.line_shapes.specs.declared.said.Leveled.{Leveled}
use Rattle.line_shapes.specs.declared.tables.Manner.{Manner}
use Rattle.line_shapes.specs.declared.tables.Manner.TheVariants.{Plain, Ruled, Boxed, Colon, Stars, Alone}
use Rattle.line_shapes.specs.declared.tables.TheConstants.{ERROR_BEGINNINGS, RESTS}
use Rattle.line_shapes.specs.Bytes.{is_in, is_letter, begins_with, capitals_and_digits, trimmed, before_last}
use Rattle.line_shapes.specs.Level.{level_at}
use Rattle.line_shapes.specs.Part.{Seen, fit}
use Rattle.line_shapes.specs.Place.{first_some}

-- what a finding says
pub record Words : Type 0 where
  pub severity : Severity
  pub aside : Bool
  pub code : Option (List ℕ)
  pub message : List ℕ

abbrev pub words : Statement → Words
words said = record { severity = said.severity; aside = said.aside; code = option_map (λ text. text.now) said.code; message = said.message.now }

-- what a shape finds that is the whole text
abbrev pub whole : List Part → Seen → Option Seen
whole shape s = option_and_then (λ found. if length found.rest == 0 then Some found else None) (fit shape s)

-- what the first of these rests finds that is the whole text, and how
abbrev pub first_whole : List (List Part × Manner) → Seen → Option (Seen × Manner)
first_whole rests s = first_some (λ rest. option_map (λ found. (found, rest.1)) (whole rest.0 s)) rests

unfoldable pub rests : List (List Part × Manner)
rests = map (λ rest. (rest.1.now, rest.2)) RESTS

abbrev pub said : Seen → Option (Seen × Manner)
said s = first_whole rests s

-- the severity of the way in which something is said
abbrev pub manner_severity : Manner → Option Severity
manner_severity Plain = None
manner_severity Ruled = None
manner_severity Boxed = None
manner_severity Colon = None
manner_severity Stars = Some Error
manner_severity Alone = None

abbrev pub is_boxed : Manner → Bool
is_boxed Plain = false
is_boxed Ruled = false
is_boxed Boxed = true
is_boxed Colon = false
is_boxed Stars = false
is_boxed Alone = false

abbrev pub is_colon : Manner → Bool
is_colon Plain = false
is_colon Ruled = false
is_colon Boxed = false
is_colon Colon = true
is_colon Stars = false
is_colon Alone = false

abbrev pub is_alone : Manner → Bool
is_alone Plain = false
is_alone Ruled = false
is_alone Boxed = false
is_alone Colon = false
is_alone Stars = false
is_alone Alone = true

-- a level word goes before a letter, and both before stars
abbrev pub first_severity : Manner → Seen → Option Severity
first_severity manner s = option_or s.severity (option_or s.initial (manner_severity manner))

-- how grave the letter of a number is
abbrev pub letter_severity : Bool → ℕ → Option Severity
letter_severity colon letter =
    if letter == 0x45 || letter == 0x46 then Some Error else if (letter == 0x43 || letter == 0x52 || letter == 0x49) && colon then Some Advice else None

-- how grave a number with one letter is
abbrev pub number_severity : Manner → Bool → List ℕ → Option Severity
number_severity manner numbered code =
    if numbered && not (is_letter (slice_index code 1)) then letter_severity (is_colon manner) (slice_index code 0) else None

-- what is said where a code stands before the message
abbrev pub coded : Manner → Seen → List ℕ → List ℕ → Words
coded manner s code message =
    record { severity = unwrap_or (option_or (first_severity manner s) (number_severity manner s.numbered code)) Warning; aside = s.aside; code = Some code; message = message }

-- a code tells how grave it is
abbrev pub tells : List ℕ → List ℕ → Bool
tells front code = begins_with code front && nat_lt (length front) (length code)

abbrev pub code_severity : List ℕ → Option Severity
code_severity code = if tells (codes "error/") code then Some Error else if tells (codes "warning/") code then Some Warning else None

abbrev pub bare_code : List ℕ → List ℕ
bare_code code = if tells (codes "error/") code then drop 6 code else if tells (codes "warning/") code then drop 8 code else code

abbrev pub text_parts : Bor (List ℕ) × Bor (List ℕ) → List ℕ × List ℕ
text_parts it = (it.0.now, it.1.now)

-- a code without the blanks before it, where there are some, and what stands before those
abbrev pub set_apart : List ℕ → List ℕ → Option (List ℕ × List ℕ)
set_apart code front =
    if nat_le 1 (length code) && nat_lt (length (trimmed front)) (length front) && nat_le 1 (length (trimmed front)) then Some (trimmed front, code) else None

-- a last part of bytes of a kind behind an opening byte, and what stands before it
abbrev pub opened : Kind → ℕ → List ℕ → Option (List ℕ × List ℕ)
opened kind open_byte inner =
    let at = length inner - suffix_len (is_in kind) inner in
    option_and_then (set_apart (drop at inner)) (before_last open_byte (take at inner))

-- the same with a closing byte behind
abbrev pub closed : Kind → ℕ → ℕ → List ℕ → Option (List ℕ × List ℕ)
closed kind open_byte close_byte text = option_and_then (opened kind open_byte) (before_last close_byte text)

abbrev pub is_number : List ℕ → Bool
is_number code = unwrap_or (option_map (λ count. count == length code) (capitals_and_digits code)) false

abbrev pub is_code_byte : ℕ → Bool
is_code_byte byte = is_in InCode byte || is_in Joint byte

-- behind the first byte: what joins words stands before the last byte, which is of a word
abbrev pub joined_behind : List ℕ → Bool
joined_behind rest =
    is_in InCode (slice_index rest (length rest - 1)) && list_all is_code_byte (take (length rest - 1) rest) && list_any (is_in Joint) (take (length rest - 1) rest)

-- words of small letters, digits and `_`, with `-`, `_`, `/` or `:` between them
abbrev pub is_joined : List ℕ → Bool
is_joined [] = false
is_joined (x ∷ []) = false
is_joined (x ∷ (y ∷ rest)) = is_in InCode x && joined_behind (y ∷ rest)

-- a code without an `@` at its beginning
abbrev pub unmarked : List ℕ → List ℕ
unmarked [] = []
unmarked (x ∷ xs) = if x == 0x40 then xs else x ∷ xs

-- what stands in parentheses looks as a code
abbrev pub is_code : List ℕ → Bool
is_code code = is_joined (unmarked code) || is_number code

abbrev pub in_parentheses : Bool → List ℕ → Option (List ℕ × List ℕ)
in_parentheses boxed text = option_and_then (λ parts. if boxed || is_code parts.1 then Some parts else None) (closed InParentheses 0x28 0x29 text)

-- the code that stands behind a message, and the message without it
abbrev pub code_behind : Bool → List ℕ → Option (List ℕ × List ℕ)
code_behind boxed text = option_or (closed InBrackets 0x5B 0x5D text) (in_parentheses boxed text)

-- how grave a text is that is a level word
abbrev pub word_severity : List ℕ → Option Severity
word_severity text = option_and_then (λ (level : Level). if level.length == length text then Some level.severity else None) (level_at text)

-- how grave a message is known to be, and whether its code may be any in parentheses
pub record LeveledParts : Type 0 where
  pub severity : Option Severity
  pub boxed : Bool
  pub message : List ℕ

abbrev pub leveled_parts : Leveled → LeveledParts
leveled_parts l = record { severity = l.severity; boxed = l.boxed; message = l.message.now }

abbrev pub level_behind : List ℕ → Option (List ℕ × Severity)
level_behind message = option_and_then (λ parts. option_map (λ severity. (parts.0, severity)) (word_severity parts.1)) (closed InBrackets 0x5B 0x5D message)

abbrev pub leveled_with : Bool → List ℕ → Option (List ℕ × Severity) → LeveledParts
leveled_with boxed message None = record { severity = None; boxed = boxed; message = message }
leveled_with boxed message (Some it) = record { severity = Some it.1; boxed = true; message = it.0 }

-- a message without the level in brackets behind it, where no other level was found
abbrev pub leveled : Option Severity → Bool → List ℕ → LeveledParts
leveled None boxed message = leveled_with boxed message (level_behind message)
leveled (Some severity) boxed message = record { severity = Some severity; boxed = boxed; message = message }

abbrev pub error_alone : List ℕ → Bool
error_alone text = ends_with nat_eq text (codes "error") || ends_with nat_eq text (codes "Error")

-- the text before the first colon of a message ends in `error`
abbrev pub is_named_error : List ℕ → Bool
is_named_error message = let count = prefix_len (λ byte. not (byte == 0x3A)) message in nat_lt count (length message) && error_alone (trimmed (take count message))

unfoldable pub error_beginnings : List (List ℕ)
error_beginnings = map (λ word. word.now) ERROR_BEGINNINGS

-- a message alone is an error: the text before its first colon ends in `error`, it begins as messages of linkers do that are errors, or it ends in the name of an error in parentheses
abbrev pub names_error : List ℕ → Bool
names_error message = is_named_error message || list_any (begins_with message) error_beginnings || ends_with nat_eq message (codes "Error)")

-- a severity, or error where a message alone names one, else warning
abbrev pub finally : Option Severity → Bool → List ℕ → Severity
finally (Some severity) alone message = severity
finally None alone message = if alone && names_error message then Error else Warning

abbrev pub with_code : LeveledParts → Bool → Bool → Option (List ℕ × List ℕ) → Words
with_code l aside alone None = record { severity = finally l.severity alone l.message; aside = aside; code = None; message = l.message }
with_code l aside alone (Some parts) =
    record { severity = finally (option_or l.severity (code_severity parts.1)) alone parts.0; aside = aside; code = Some (bare_code parts.1); message = parts.0 }

-- what is said where no code stands before the message
abbrev pub uncoded : Manner → Seen → List ℕ → Words
uncoded manner s message =
    let l = leveled (first_severity manner s) (is_boxed manner) message in with_code l s.aside (is_alone manner) (code_behind l.boxed l.message)

abbrev pub meant_with : Manner → Seen → List ℕ → Option (List ℕ) → Words
meant_with manner s message (Some code) = coded manner s code message
meant_with manner s message None = uncoded manner s message

-- what a finding says of which these parts were found
abbrev pub meant : Manner → Seen → Words
meant manner s = meant_with manner s (trimmed (unwrap_or s.message [])) s.code
