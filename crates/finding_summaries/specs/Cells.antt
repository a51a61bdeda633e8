-- Texts in the cells of a table of GitHub's Markdown.
use Rattle.std.specs.Prelude.{ℕ, ◌==◌, ◌&&◌, ◌||◌, nat_le, if◌then◌else◌, Bool, true, false, List, [], ◌∷◌, ◌++◌, map, Option, Some, None, codes}
use Rattle.escapes.specs.Escape.{escaped}

abbrev pub is_line_end : ℕ → Bool
is_line_end byte = byte == 0x0A || byte == 0x0D

-- a text with a blank for each LF and CR
abbrev pub in_one_line : List ℕ → List ℕ
in_one_line text = map (λ byte. if is_line_end byte then 0x20 else byte) text

-- what is written in a cell for a byte, if not the byte: a blank for the end of a line, and a backslash before what Markdown would read otherwise
unfoldable pub in_cell : ℕ → Option (List ℕ)
in_cell byte =
    if byte == 0x0A then Some (codes " ") else if byte == 0x0D then Some (codes " ") else if byte == 0x5C then Some (codes "\\\\") else if byte == 0x7C then Some (codes "\\|")
    else if byte == 0x3C then Some (codes "\\<") else if byte == 0x3E then Some (codes "\\>") else if byte == 0x26 then Some (codes "\\&") else if byte == 0x2A then Some (codes "\\*")
    else if byte == 0x5F then Some (codes "\\_") else if byte == 0x7E then Some (codes "\\~") else if byte == 0x5B then Some (codes "\\[") else if byte == 0x5D then Some (codes "\\]")
    else if byte == 0x60 then Some (codes "\\`") else None

-- a text as it is written in a cell
abbrev pub cell : List ℕ → List ℕ
cell text = escaped in_cell text

-- ---- as Markdown reads it

-- ASCII punctuation, before which a backslash is an escape
abbrev pub is_punctuation : ℕ → Bool
is_punctuation byte = (nat_le 0x21 byte && nat_le byte 0x2F) || ((nat_le 0x3A byte && nat_le byte 0x40) || ((nat_le 0x5B byte && nat_le byte 0x60) || (nat_le 0x7B byte && nat_le byte 0x7E)))

-- the bytes that a backslash and the byte after it are
abbrev pub after_backslash : ℕ → List ℕ
after_backslash byte = if is_punctuation byte then byte ∷ [] else 0x5C ∷ (byte ∷ [])

-- a text with its escapes taken out; the flag says that there is a backslash before it
unfoldable pub unescape_from : Bool → List ℕ → List ℕ
unescape_from false [] = []
unescape_from true [] = 0x5C ∷ []
unescape_from true (x ∷ xs) = after_backslash x ++ unescape_from false xs
unescape_from false (x ∷ xs) = if x == 0x5C then unescape_from true xs else x ∷ unescape_from false xs

abbrev pub unescape : List ℕ → List ℕ
unescape text = unescape_from false text

-- a text has a pipe that no backslash escapes, and which would end the cell
unfoldable pub has_bare_from : Bool → List ℕ → Bool
has_bare_from escaped [] = false
has_bare_from true (x ∷ xs) = has_bare_from false xs
has_bare_from false (x ∷ xs) = if x == 0x5C then has_bare_from true xs else x == 0x7C || has_bare_from false xs

abbrev pub has_bare_pipe : List ℕ → Bool
has_bare_pipe text = has_bare_from false text
