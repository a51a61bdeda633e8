-- A text has the tokens that it has, and bytes that are no text have none.
use Rattle.std.proofs.Common.{◌≡◌, ℕ, List, Bool, true, false, if◌then◌else◌, refl}
use Rattle.std.specs.Str.{IsUtf8, is_utf8}
use Rattle.std.proofs.lemmas.Str.{is_utf8-from_IsUtf8, IsUtf8-from_is_utf8}
use Rattle.json.specs.Lex.{tokens}
use Rattle.json_inputs.specs.Marks.{has_array, top_array}

pub array_read : (name bytes : List ℕ) → IsUtf8 bytes → top_array name (tokens bytes) ≡ has_array name bytes
array_read name bytes utf8 = rw (is_utf8-from_IsUtf8 bytes utf8) refl

pub array_unread : (name bytes : List ℕ) → ¬ IsUtf8 bytes → false ≡ has_array name bytes
array_unread name bytes bad = go (is_utf8 bytes) refl
  where
    go : (utf8 : Bool) → is_utf8 bytes ≡ utf8 → false ≡ (if utf8 then top_array name (tokens bytes) else false)
    go true is = absurd (bad (IsUtf8-from_is_utf8 bytes is))
    go false is = refl
