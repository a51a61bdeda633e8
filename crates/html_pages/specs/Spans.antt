-- Drawings: an element for each style.
use Rattle.std.specs.Prelude.{ℕ, ◌==◌, if◌then◌else◌, Bool, true, false, List, [], ◌∷◌, ◌++◌, codes}
use Rattle.std.specs.Str.{bytes_eq}
use Rattle.escapes.specs.Escape.{spell}
use Rattle.html_pages.specs.Escaped.{in_html}
use Rattle.html_pages.specs.declared.spans.Mark.{Mark}
use Rattle.html_pages.specs.declared.spans.Mark.TheVariants as mark

-- what an escape sequence means for the elements
pub data Meant : Type 0 where
  Begins : List ℕ → Meant
  Ends : Meant
  Nothing : Meant

abbrev pub mark_parts : Mark → Meant
mark_parts (mark.Begins class) = Begins class.now
mark_parts mark.Ends = Ends
mark_parts mark.Nothing = Nothing

-- the class of each style, by the bytes between ESC and `m`
abbrev pub mark_of : List ℕ → Meant
mark_of sequence =
    if bytes_eq sequence (codes "[0") then Ends else if bytes_eq sequence (codes "[38;2;225;80;80;1") then Begins (codes "error")
    else if bytes_eq sequence (codes "[38;2;244;191;117;1") then Begins (codes "warning") else if bytes_eq sequence (codes "[38;2;106;159;181") then Begins (codes "info")
    else if bytes_eq sequence (codes "[38;2;92;157;255;1") then Begins (codes "link") else if bytes_eq sequence (codes "[2") then Begins (codes "row")
    else if bytes_eq sequence (codes "[38;2;246;87;248") then Begins (codes "first") else if bytes_eq sequence (codes "[38;2;30;201;212") then Begins (codes "second")
    else if bytes_eq sequence (codes "[38;2;145;246;111") then Begins (codes "third") else Nothing

abbrev pub opening : List ℕ → List ℕ
opening class = codes "<span class=\"" ++ class ++ codes "\">"

abbrev pub closing : Bool → List ℕ
closing true = codes "</span>"
closing false = []

-- elements aren't nested: a style ends the one before it
abbrev pub tags : Bool → Meant → List ℕ
tags begun Nothing = []
tags begun Ends = closing begun
tags begun (Begins class) = closing begun ++ opening class

abbrev pub has_begun : Bool → Meant → Bool
has_begun begun Nothing = begun
has_begun begun Ends = false
has_begun begun (Begins class) = true

-- outside of an escape sequence, or in one of which these bytes were read
pub data At : Type 0 where
  Outside : At
  Inside : List ℕ → At

-- a drawing from there on: texts with entities, and tags for escape sequences, which go from ESC to the next `m`
unfoldable pub spans_from : Bool → At → List ℕ → List ℕ
spans_from begun at [] = closing begun
spans_from begun Outside (x ∷ xs) = if x == 0x1B then spans_from begun (Inside []) xs else spell in_html x ++ spans_from begun Outside xs
spans_from begun (Inside sequence) (x ∷ xs) =
    if x == 0x6D then tags begun (mark_of sequence) ++ spans_from (has_begun begun (mark_of sequence)) Outside xs else spans_from begun (Inside (sequence ++ x ∷ [])) xs

abbrev pub spans_text : List ℕ → List ℕ
spans_text drawing = spans_from false Outside drawing
