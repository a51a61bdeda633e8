-- Characters of a text by their bytes.
use Rattle.std.proofs.Common.{◌≡◌, ℕ, ◌+◌, ◌≤◌, ◌<◌, true, List, [], ◌∷◌, ◌++◌, length, drop, get_or, refl, sym, ap, ◌∙◌, arith, zero, suc}
use Rattle.std.specs.Char.{IsScalar, len_utf8}
use Rattle.std.specs.Str.{IsUtf8, IsCharBoundary}
use Rattle.std.specs.Str.Pattern.{HasCharAt}
use Rattle.std.proofs.lemmas.Bool.{and_parts}
use Rattle.std.proofs.lemmas.Bool.Decides.{nat_tests}
use Rattle.std.proofs.lemmas.List.{length-drop, get_or-drop}
use Rattle.std.proofs.Math.ListN.{get_or-append}
use Rattle.std.proofs.lemmas.Str.{IsUtf8-drop, IsCharBoundary-past_char, drop_past_char, length-encode, len_utf8_bounds, byte_from_char}
use lib.Utf8.{scalar, scalars, encode, encodes}
use Rattle.utf16_places.specs.Units.{units_of}
use Rattle.utf16_places.specs.Bytes.{bytes_by, units_by}

-- the character at a boundary
pub record CharacterAt (text : List ℕ) (p : ℕ) : Type 0 where
  pub character : ℕ
  pub scalar : IsScalar character
  pub stands : HasCharAt character text p (p + len_utf8 character)

pub character_at : (text : List ℕ) (p : ℕ) → IsUtf8 text → IsCharBoundary text p → p < length text → CharacterAt text p
character_at text p utf8 b within = let rest = IsUtf8-drop text p utf8 b in at rest.0 rest.1.0 rest.1.1
  where
    at : (cs : List ℕ) → scalars cs ≡ true → encodes cs ≡ drop p text → CharacterAt text p
    at [] is e = absurd (omega (arith, within, ap length e, length-drop p text))
    at (c ∷ cs) is e =
        let split : drop p text ≡ encode c ++ encodes cs = sym e in
        let past = drop_past_char text (encodes cs) p c split in
        record {
          character = c;
          scalar = (and_parts (scalar c) (scalars cs) is).0;
          stands = record {
            split = split ∙ ap (λ l. encode c ++ l) (sym past);
            ends = refl;
            after = IsCharBoundary-past_char text (encodes cs) p c b.0 (IsUtf8-drop text p utf8 b) split;
            byte = λ low. sym (get_or-drop p text 0 0 ∙ ap (λ k. get_or text k 0) (omega arith)) ∙ byte_from_char (drop p text) (encodes cs) c split low;
          };
        }

-- its bytes
pub byte_of : (text : List ℕ) (c i j k : ℕ) → HasCharAt c text i j → k < len_utf8 c → get_or text (i + k) 0 ≡ get_or (encode c) k 0
byte_of text c i j k at h =
    sym (get_or-drop i text k 0) ∙ ap (λ l. get_or l k 0) at.split ∙ get_or-append (encode c) (drop j text) 0 k (omega (arith, h, length-encode c))

-- what the first byte of a character past ASCII tells
pub encode_first : (c : ℕ) → c < 1114112 → 128 ≤ c
    → (192 ≤ get_or (encode c) 0 0) × (len_utf8 c ≡ bytes_by (get_or (encode c) 0 0)) × (units_of c ≡ units_by (get_or (encode c) 0 0))
unfolding encode
encode_first c low high = (grind (arith, nat_tests), grind (arith, nat_tests), grind (arith, nat_tests))

-- and that its others begin none
pub encode_inner : (c k : ℕ) → c < 1114112 → 0 < k → k < len_utf8 c → (128 ≤ get_or (encode c) k 0) × (get_or (encode c) k 0 < 192)
unfolding encode
encode_inner c zero low some h = absurd (omega arith)
encode_inner c (suc zero) low some h = (grind (arith, nat_tests), grind (arith, nat_tests))
encode_inner c (suc (suc zero)) low some h = (grind (arith, nat_tests), grind (arith, nat_tests))
encode_inner c (suc (suc (suc zero))) low some h = (grind (arith, nat_tests), grind (arith, nat_tests))
encode_inner c (suc (suc (suc (suc k)))) low some h = absurd (omega (arith, h, (len_utf8_bounds c).1))
