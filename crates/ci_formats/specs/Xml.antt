-- Texts in XML 1.0.
use Rattle.std.specs.Prelude.{ℕ, ◌==◌, ◌&&◌, ◌||◌, nat_le, nat_lt, if◌then◌else◌, Bool, List, [], ◌∷◌, ◌++◌, map, Option, Some, None, codes, decimal}
use Rattle.std.specs.Str.{bytes_eq, chars, encode_utf8_all}
use Rattle.escapes.specs.Escape.{escaped}

-- a character that XML 1.0 can hold, of all that a text can
abbrev pub is_held : ℕ → Bool
is_held c = (nat_le 0x20 c && nat_lt c 0xFFFE) || (c == 0x09 || (c == 0x0A || (c == 0x0D || nat_le 0x1_0000 c)))

abbrev pub held_char : ℕ → ℕ
held_char c = if is_held c then c else 0xFFFD

-- a text in which U+FFFD stands for each character that XML can't hold
unfoldable pub held : List ℕ → List ℕ
held text = encode_utf8_all (map held_char (chars text))

-- the entity that stands for a byte, if it is escaped
unfoldable pub entity : ℕ → Option (List ℕ)
entity byte =
    if byte == 0x26 then Some (codes "&amp;") else if byte == 0x3C then Some (codes "&lt;") else if byte == 0x3E then Some (codes "&gt;") else if byte == 0x22 then Some (codes "&quot;")
    else if byte == 0x27 then Some (codes "&apos;") else if byte == 0x09 then Some (codes "&#9;") else if byte == 0x0A then Some (codes "&#10;") else if byte == 0x0D then Some (codes "&#13;") else None

-- a text as it stands in XML, in an attribute or between tags
abbrev pub escape : List ℕ → List ℕ
escape text = escaped entity text

abbrev pub shown : List ℕ → List ℕ
shown text = escape (held text)

-- an attribute, with the blank before it
unfoldable pub attribute : List ℕ → List ℕ → List ℕ
attribute key value = codes " " ++ key ++ codes "=\"" ++ shown value ++ codes "\""

unfoldable pub number_attribute : List ℕ → ℕ → List ℕ
number_attribute key number = codes " " ++ key ++ codes "=\"" ++ decimal number ++ codes "\""

abbrev pub xml_head : List ℕ
xml_head = codes "<?xml version=\"1.0\" encoding=\"UTF-8\"?>\n"

-- ---- escapes turned back

-- the byte that an entity stands for, if it is one of ours
abbrev pub meant : List ℕ → Option ℕ
meant entity =
    if bytes_eq entity (codes "amp") then Some 0x26 else if bytes_eq entity (codes "lt") then Some 0x3C else if bytes_eq entity (codes "gt") then Some 0x3E else if bytes_eq entity (codes "quot") then Some 0x22
    else if bytes_eq entity (codes "apos") then Some 0x27 else if bytes_eq entity (codes "#9") then Some 0x09 else if bytes_eq entity (codes "#10") then Some 0x0A else if bytes_eq entity (codes "#13") then Some 0x0D else None

abbrev pub meaning : List ℕ → Option ℕ → List ℕ
meaning entity None = codes "&" ++ entity ++ codes ";"
meaning entity (Some byte) = byte ∷ []

-- a text with its entities turned back; all else is kept. What has been read of an entity stands before the text
unfoldable pub unescape_from : Option (List ℕ) → List ℕ → List ℕ
unescape_from None [] = []
unescape_from (Some entity) [] = codes "&" ++ entity
unescape_from None (x ∷ xs) = if x == 0x26 then unescape_from (Some []) xs else x ∷ unescape_from None xs
unescape_from (Some entity) (x ∷ xs) = if x == 0x3B then meaning entity (meant entity) ++ unescape_from None xs else unescape_from (Some (entity ++ x ∷ [])) xs

abbrev pub unescape : List ℕ → List ℕ
unescape text = unescape_from None text

-- a byte that ends an attribute, begins or ends markup, or is changed when an attribute is read
abbrev pub is_markup : ℕ → Bool
is_markup byte = byte == 0x3C || (byte == 0x3E || (byte == 0x22 || (byte == 0x27 || (byte == 0x09 || (byte == 0x0A || byte == 0x0D)))))
