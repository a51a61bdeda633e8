-- A text of characters that XML can hold.
use Rattle.std.proofs.Common.{◌≡◌, ◌∙◌, ℕ, if◌then◌else◌, List, [], ◌∷◌, map, true, ap, ap₂, refl, IsUtf8}
use Rattle.std.specs.List.{list_all}
use Rattle.std.specs.Str.{chars, encode_utf8_all}
use Rattle.std.proofs.lemmas.Bool.{and_parts}
use Rattle.std.proofs.lemmas.Str.{encodes-chars}
use Rattle.ci_formats.specs.Xml.{held, held_char, is_held}

chars_kept : (cs : List ℕ) → list_all is_held cs ≡ true → map held_char cs ≡ cs
chars_kept [] all = refl
chars_kept (c ∷ cs) all =
    let parts = and_parts (is_held c) (list_all is_held cs) all in
    ap₂ (λ x xs. x ∷ xs) (ap (λ b. if b then c else 0xFFFD) parts.0) (chars_kept cs parts.1)

pub kept : (text : List ℕ) → IsUtf8 text → list_all is_held (chars text) ≡ true → held text ≡ text
unfolding held
kept text utf8 all = ap encode_utf8_all (chars_kept (chars text) all) ∙ encodes-chars text utf8
