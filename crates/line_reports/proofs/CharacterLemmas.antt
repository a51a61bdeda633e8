-- The characters of ASCII.
use Rattle.std.proofs.Common.{◌≡◌, ℕ, zero, suc, ◌<◌, List, [], ◌∷◌, ◌++◌, IsAscii, chars, ap, ◌∙◌, sym, subst, arith}
use Rattle.std.proofs.lemmas.Str.{IsAscii-append, IsUtf8-from_ascii, chars-IsAscii, chars_from_encodes, utf8_lossy-IsUtf8}
use Rattle.std.specs.Str.Lossy.{utf8_lossy}

pub ascii_text : (text : List ℕ) → IsAscii text → chars text ≡ text
ascii_text text low = chars-IsAscii text low

pub ascii_lossy : (line : List ℕ) → IsAscii line → chars (utf8_lossy line) ≡ line
ascii_lossy line low = ap chars (utf8_lossy-IsUtf8 line (IsUtf8-from_ascii line low)) ∙ chars-IsAscii line low

one_ascii : (byte : ℕ) → byte < 128 → IsAscii (byte ∷ [])
one_ascii byte low zero = low
one_ascii byte low (suc i) = omega arith

pub ascii_more : (old new : List ℕ) (byte : ℕ) → new ≡ old ++ byte ∷ [] → IsAscii old → byte < 128 → IsAscii new
ascii_more old new byte put ascii low = subst IsAscii (sym put) (IsAscii-append old (byte ∷ []) ascii (one_ascii byte low))

pub ruleset ascii_rules = (ascii_text, ascii_lossy, chars_from_encodes)
