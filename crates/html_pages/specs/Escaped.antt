-- Texts between tags and in attributes.
use Rattle.std.specs.Prelude.{ℕ, ◌==◌, ◌||◌, if◌then◌else◌, Bool, List, Option, Some, None, codes}
use Rattle.escapes.specs.Escape.{escaped}

-- the entity of a byte that HTML would read otherwise
unfoldable pub in_html : ℕ → Option (List ℕ)
in_html byte =
    if byte == 0x26 then Some (codes "&amp;") else if byte == 0x3C then Some (codes "&lt;") else if byte == 0x3E then Some (codes "&gt;") else if byte == 0x22 then Some (codes "&quot;")
    else None

abbrev pub escaped_text : List ℕ → List ℕ
escaped_text text = escaped in_html text

-- a byte that begins or ends a tag, or ends an attribute
abbrev pub is_markup : ℕ → Bool
is_markup byte = byte == 0x3C || (byte == 0x3E || byte == 0x22)
