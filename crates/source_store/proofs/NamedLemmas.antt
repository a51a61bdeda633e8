-- What a text with its escapes read is.
use Rattle.std.proofs.Common.{◌≡◌, ℕ, Bool, true, false, List, Some, None, refl}
use Rattle.std.specs.Str.{IsUtf8, is_utf8}
use Rattle.std.proofs.lemmas.Str.{is_utf8-from_IsUtf8, IsUtf8-from_is_utf8}
use Rattle.percent_encoding.specs.Percent.{percent_decode}
use Rattle.source_store.specs.Named.{decoded}

pub decoded_text : (text : List ℕ) → IsUtf8 (percent_decode text) → decoded text ≡ Some (percent_decode text)
unfolding decoded
decoded_text text utf8 = rw (is_utf8-from_IsUtf8 (percent_decode text) utf8) refl

pub decoded_none : (text : List ℕ) → ¬ (IsUtf8 (percent_decode text)) → decoded text ≡ None
unfolding decoded
decoded_none text other = go (is_utf8 (percent_decode text)) refl
  where
    go : (said : Bool) → is_utf8 (percent_decode text) ≡ said → decoded text ≡ None
    go true is = absurd (other (IsUtf8-from_is_utf8 (percent_decode text) is))
    go false is = rw is refl
