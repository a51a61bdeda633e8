-- A document: its encoding, what may stand round its element, and its value.
use Rattle.std.specs.Prelude.{ℕ, zero, suc, ◌+◌, ◌==◌, ◌||◌, ◌&&◌, nat_eq, nat_lt, List, [], ◌∷◌, length, codes, Bool, true, false, not, if◌then◌else◌, Option, Some, None, is_some, option_map, option_and_then}
use Rattle.std.specs.List.{starts_with}
use Rattle.std.specs.Str.{is_utf8}
use Rattle.json.specs.Json.{Json}
use Rattle.xml_values.specs.Marks.{is_blank, is_between, past_blanks, after, parted}
use Rattle.xml_values.specs.Tag.{assigned, is_empty}
use Rattle.xml_values.specs.Element.{element, passed, rooted}

abbrev pub or_self : List ℕ → Option (List ℕ) → List ℕ
or_self bytes None = bytes
or_self bytes (Some it) = it

-- an input without its byte order mark
abbrev pub body : List ℕ → List ℕ
body bytes = or_self bytes (after (0xEF ∷ 0xBB ∷ 0xBF ∷ []) bytes)

-- ---- characters and encoding

abbrev pub begins_control : List ℕ → Bool
begins_control [] = false
begins_control (byte ∷ bytes) = nat_lt byte 0x20 && not (is_blank byte)

-- a control character, U+FFFE or U+FFFF begins here
abbrev pub begins_no_char : List ℕ → Bool
begins_no_char bytes = begins_control bytes || (starts_with nat_eq bytes (0xEF ∷ 0xBF ∷ 0xBE ∷ []) || starts_with nat_eq bytes (0xEF ∷ 0xBF ∷ 0xBF ∷ []))

-- what stands from the first character on that XML can't hold
abbrev pub from_no_char : List ℕ → Option (List ℕ)
from_no_char [] = None
from_no_char (byte ∷ bytes) = if begins_no_char (byte ∷ bytes) then Some (byte ∷ bytes) else from_no_char bytes

abbrev pub begins_blank : List ℕ → Bool
begins_blank [] = false
begins_blank (byte ∷ bytes) = is_blank byte

abbrev pub lower : ℕ → ℕ
lower byte = if is_between 0x41 0x5A byte then byte + 32 else byte

-- bytes are the letters of a word, in any case, as far as both go
abbrev pub are_letters : List ℕ → List ℕ → Bool
are_letters [] word = true
are_letters (byte ∷ bytes) [] = true
are_letters (byte ∷ bytes) (letter ∷ word) = if lower byte == letter then are_letters bytes word else false

-- bytes are a word, in any case
abbrev pub is_in_any_case : List ℕ → List ℕ → Bool
is_in_any_case bytes word = if length bytes == length word then are_letters bytes word else false

abbrev pub if_blank : List ℕ → Option (List ℕ)
if_blank rest = if begins_blank rest then Some rest else None

-- what stands after `<?xml` before a blank
abbrev pub declaration : List ℕ → Option (List ℕ)
declaration text = option_and_then if_blank (after (codes "<?xml") (past_blanks text))

abbrev pub encoding_in : List ℕ × List ℕ → Option (List ℕ)
encoding_in it = option_and_then (λ at. option_map (λ named. named.0) (assigned at.1)) (parted (codes "encoding") it.0)

-- the encoding that the declaration names
abbrev pub encoding : List ℕ → Option (List ℕ)
encoding text = option_and_then encoding_in (option_and_then (parted (codes "?>")) (declaration text))

abbrev pub is_utf8_name : Option (List ℕ) → Bool
is_utf8_name None = true
is_utf8_name (Some name) = is_in_any_case name (codes "utf-8") || (is_in_any_case name (codes "us-ascii") || is_in_any_case name (codes "ascii"))

-- ---- the document

abbrev pub skip_next : (List ℕ → List ℕ) → List ℕ → Option (List ℕ) → List ℕ
skip_next more rest None = rest
skip_next more rest (Some it) = more it

-- what stands after blanks, comments and instructions. The number bounds the turns; one more than the bytes is always enough
unfoldable pub skipped : ℕ → List ℕ → List ℕ
skipped zero rest = rest
skipped (suc n) rest = skip_next (skipped n) (past_blanks rest) (passed (past_blanks rest))

abbrev pub past_misc : List ℕ → List ℕ
past_misc rest = skipped (length rest + 1) rest

abbrev pub max_depth : ℕ
max_depth = 127

abbrev pub if_ended : (List ℕ × Json) × List ℕ → Option Json
if_ended it = if is_empty (past_misc it.1) then Some (rooted it.0) else None

-- the value of a text of characters of XML: one element, with comments and instructions round it
abbrev pub value_of_text : List ℕ → Option Json
value_of_text text = option_and_then if_ended (option_and_then (element max_depth) (after (codes "<") (past_misc text)))

abbrev pub may_be_xml : List ℕ → Bool
may_be_xml text = not (is_some (from_no_char text)) && is_utf8_name (encoding text)

abbrev pub value_of_body : List ℕ → Option Json
value_of_body text = if may_be_xml text then value_of_text text else None

-- the value of an input; None where it is not XML that is read
unfoldable pub value_of : List ℕ → Option Json
value_of bytes = if is_utf8 bytes then value_of_body (body bytes) else None
