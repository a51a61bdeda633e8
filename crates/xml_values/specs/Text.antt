-- Texts: the ends of rows, and references to characters.
use Rattle.std.specs.Prelude.{◌≡◌, ◌≢◌, ℕ, zero, suc, ◌+◌, ◌*◌, ◌==◌, ◌||◌, ◌&&◌, nat_lt, List, [], ◌∷◌, ◌++◌, length, codes, Bool, true, false, if◌then◌else◌, Option, Some, None, option_and_then}
use Rattle.std.specs.Char.{digit_value, is_digit, encode_utf8}
use Rattle.std.specs.Str.{bytes_eq}
use Rattle.xml_values.specs.declared.error.XmlError.{XmlError}
use Rattle.xml_values.specs.declared.error.XmlError.TheVariants.{OutOfMemory}
use Rattle.xml_values.specs.declared.marks.Class.TheVariants.{Until}
use Rattle.xml_values.specs.Marks.{is_blank, is_between, run, past, after, after_first, parted}

-- an error that is not out of memory means P
abbrev pub Means : Type 0 → XmlError → Type 0
Means P error = error ≢ OutOfMemory → P

abbrev pub begins_break : List ℕ → Bool
begins_break [] = false
begins_break (byte ∷ bytes) = byte == 0x0A

-- a byte as it is read: in attributes blanks are spaces, elsewhere a CR is an LF
abbrev pub read_byte : Bool → ℕ → ℕ
read_byte in_attribute byte = if in_attribute && is_blank byte then 0x20 else if byte == 0x0D then 0x0A else byte

-- a text without references, as it is read: CR and LF are one byte
abbrev pub plain : Bool → List ℕ → List ℕ
plain in_attribute [] = []
plain in_attribute (byte ∷ bytes) = if byte == 0x0D && begins_break bytes then plain in_attribute bytes else read_byte in_attribute byte ∷ plain in_attribute bytes

-- a character that XML can hold
abbrev pub is_char : ℕ → Bool
is_char code = (code == 0x09 || (code == 0x0A || code == 0x0D)) || (is_between 0x20 0xD7FF code || (is_between 0xE000 0xFFFD code || is_between 0x10000 0x10FFFF code))

abbrev pub if_char : ℕ → Option ℕ
if_char code = if is_char code then Some code else None

-- a number in digits, after others; it stops above 0x10FFFF
abbrev pub digits : ℕ → ℕ → List ℕ → Option ℕ
digits base value [] = Some value
digits base value (digit ∷ more) = if is_digit digit base && nat_lt value 0x110000 then digits base (value * base + digit_value digit) more else None

abbrev pub numbered : ℕ → List ℕ → Option ℕ
numbered base text = option_and_then if_char (digits base 0 text)

abbrev pub entity : List ℕ → Option ℕ
entity name =
    if bytes_eq name (codes "lt") then Some 0x3C
    else if bytes_eq name (codes "gt") then Some 0x3E
    else if bytes_eq name (codes "amp") then Some 0x26
    else if bytes_eq name (codes "quot") then Some 0x22
    else if bytes_eq name (codes "apos") then Some 0x27
    else None

abbrev pub or_else : Option ℕ → Option ℕ → Option ℕ
or_else (Some code) other = Some code
or_else None other = other

abbrev pub numbered_after : List ℕ → ℕ → List ℕ → Option ℕ
numbered_after mark base name = option_and_then (numbered base) (after mark name)

-- the character that a reference stands for, by what is between `&` and `;`
unfoldable pub meaning : List ℕ → Option ℕ
meaning name = or_else (numbered_after (codes "#x") 16 name) (or_else (numbered_after (codes "#X") 16 name) (or_else (numbered_after (codes "#") 10 name) (entity name)))

abbrev pub referred : (List ℕ → List ℕ → Option (List ℕ)) → List ℕ → Option (List ℕ × List ℕ) → Option (List ℕ)
referred more out None = None
referred more out (Some it) = option_and_then (λ code. more (out ++ encode_utf8 code) it.1) (meaning it.0)

abbrev pub from_reference : (List ℕ → List ℕ → Option (List ℕ)) → List ℕ → Option (List ℕ) → Option (List ℕ)
from_reference more out None = Some out
from_reference more out (Some rest) = referred more out (parted (codes ";") rest)

-- a text as it is read, after what was read before it. The number bounds the turns; one more than its length is always enough
unfoldable pub read_after : ℕ → Bool → List ℕ → List ℕ → Option (List ℕ)
read_after zero in_attribute out text = None
read_after (suc n) in_attribute out text =
    from_reference (read_after n in_attribute) (out ++ plain in_attribute (run (Until 0x26) text)) (after_first (past (Until 0x26) text))

abbrev pub text_after : Bool → List ℕ → List ℕ → Option (List ℕ)
text_after in_attribute out text = read_after (length text + 1) in_attribute out text
