-- Bytes that are no text have no value.
use Rattle.std.proofs.Common.{◌≡◌, ℕ, List, Bool, true, false, if◌then◌else◌, None, refl}
use Rattle.std.specs.Str.{IsUtf8, is_utf8}
use Rattle.std.proofs.lemmas.Str.{is_utf8-from_IsUtf8, IsUtf8-from_is_utf8}
use Rattle.xml_values.specs.Document.{body, value_of, value_of_body}

pub value_read : (bytes : List ℕ) → IsUtf8 bytes → value_of bytes ≡ value_of_body (body bytes)
unfolding value_of
value_read bytes utf8 = rw (is_utf8-from_IsUtf8 bytes utf8) refl

pub value_unread : (bytes : List ℕ) → ¬ IsUtf8 bytes → value_of bytes ≡ None
unfolding value_of
value_unread bytes bad = go (is_utf8 bytes) refl
  where
    go : (utf8 : Bool) → is_utf8 bytes ≡ utf8 → (if utf8 then value_of_body (body bytes) else None) ≡ None
    go true is = absurd (bad (IsUtf8-from_is_utf8 bytes is))
    go false is = refl
