-- The texts by which findings are compared.
use Rattle.std.specs.Prelude.{ℕ, filter, ◌==◌, ◌&&◌, ◌||◌, not, nat_le, Bool, List, [], ◌∷◌, ◌++◌, length, Option, Some, None, codes, decimal, if◌then◌else◌}
use Rattle.std.specs.List.{flat_map, list_all, slice_split}
use Rattle.std.specs.Str.Lossy.{utf8_lossy}
use Rattle.oxc_protocol.specs.declared.protocol.Severity.{Severity}
use Rattle.oxc_protocol.specs.declared.protocol.Severity.TheVariants.{Advice, Warning, Error}
use Rattle.finding_filters.specs.Finding.{FindingParts}
use Rattle.finding_filters.specs.declared.finding.Spot.{Spot}

abbrev pub is_digit : ℕ → Bool
is_digit byte = nat_le 0x30 byte && nat_le byte 0x39

-- a letter, a digit, `_` or a byte past ASCII
abbrev pub is_word : ℕ → Bool
is_word byte = is_digit byte || (nat_le 0x61 byte && nat_le byte 0x7A) || (nat_le 0x41 byte && nat_le byte 0x5A) || byte == 0x5F || nat_le 0x80 byte

-- a space, a tab, an LF or a CR
abbrev pub is_blank : ℕ → Bool
is_blank byte = byte == 0x20 || byte == 0x09 || byte == 0x0A || byte == 0x0D

-- a blank, a vertical tab or a form feed
abbrev pub is_space : ℕ → Bool
is_space byte = is_blank byte || byte == 0x0B || byte == 0x0C

-- ---- messages

-- digits alone
abbrev pub is_number : List ℕ → Bool
is_number word = not (length word == 0) && list_all is_digit word

abbrev pub plain_word : List ℕ → List ℕ
plain_word word = if is_number word then 0x30 ∷ [] else word

-- a text with each word of digits alone as 0, after the bytes of a word
abbrev pub zeroed_from : List ℕ → List ℕ → List ℕ
zeroed_from word [] = plain_word word
zeroed_from word (byte ∷ rest) = if is_word byte then zeroed_from (word ++ byte ∷ []) rest else plain_word word ++ byte ∷ zeroed_from [] rest

abbrev pub with_word : List ℕ → List ℕ → List ℕ
with_word [] word = word
with_word (byte ∷ text) [] = byte ∷ text
with_word (byte ∷ text) (first ∷ word) = (byte ∷ text) ++ 0x20 ∷ first ∷ word

-- words after a text, those that aren't empty with a space before each
abbrev pub joined_on : List ℕ → List (List ℕ) → List ℕ
joined_on text [] = text
joined_on text (word ∷ words) = joined_on (with_word text word) words

-- a message in which each number is 0, and blanks are one space
unfoldable pub plain_message : List ℕ → List ℕ
plain_message message = joined_on [] (slice_split is_blank (zeroed_from [] message))

-- ---- kinds

-- a byte in a line: an LF and a backslash are escaped
abbrev pub on_line : ℕ → List ℕ
on_line byte = if byte == 0x0A then codes "\\n" else if byte == 0x5C then codes "\\\\" else byte ∷ []

abbrev pub line_of : List ℕ → List ℕ
line_of text = flat_map on_line text ++ 0x0A ∷ []

-- the kind of a finding: its file, its scope, its code and its message, each on a line
unfoldable pub kind_text : FindingParts → List ℕ
kind_text it = utf8_lossy (line_of it.file ++ line_of it.scope ++ line_of it.code ++ plain_message it.message)

-- a kind, and the text of a row without blanks
unfoldable pub row_class : List ℕ → List ℕ → List ℕ
row_class kind row = utf8_lossy (kind ++ 0x0A ∷ filter (λ byte. not (is_space byte)) row)

-- ---- repetitions

abbrev pub number_text : Option ℕ → List ℕ
number_text None = codes ","
number_text (Some number) = decimal number ++ codes ","

abbrev pub spot_text : Spot → List ℕ
spot_text spot = number_text spot.row ++ number_text spot.column

abbrev pub severity_code : Severity → ℕ
severity_code Advice = 0x31
severity_code Warning = 0x32
severity_code Error = 0x33

-- all that repetitions have in common: file, scope, code, message, place and severity
unfoldable pub exact_text : FindingParts → List ℕ
exact_text it =
    utf8_lossy (line_of it.file ++ line_of it.scope ++ line_of it.code ++ line_of it.message ++ spot_text it.start ++ spot_text it.end ++ severity_code it.severity ∷ [])
