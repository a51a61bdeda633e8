-- Texts of characters.
use Rattle.std.proofs.Common.{◌≡◌, ℕ, List, ◌++◌, sym, ap₂, ◌∙◌}
use Rattle.std.specs.Str.{encode_utf8_all}
use Rattle.std.proofs.lemmas.Str.{encodes-append}

pub text_after : (front rest text more : List ℕ) → text ≡ encode_utf8_all front → more ≡ encode_utf8_all rest → text ++ more ≡ encode_utf8_all (front ++ rest)
text_after front rest text more is so = ap₂ (λ a b. a ++ b) is so ∙ sym (encodes-append front rest)
