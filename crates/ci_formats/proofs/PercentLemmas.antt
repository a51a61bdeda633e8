-- Escapes turned back, and what they have none of.
use Rattle.std.proofs.Common.{◌≡◌, ℕ, suc, ◌+◌, ◌-◌, ◌<◌, ◌≤◌, Bool, true, false, ◌==◌, List, [], ◌∷◌, ◌++◌, length, take, drop, get_or, Option, Some, None, unwrap_or, lit<, refl, sym, ap, ap₂, ◌∙◌, inl, inr, ◌⊎◌, arith}
use Rattle.std.specs.List.{position_or_len, before_first, after_first, list_any}
use Rattle.std.proofs.lemmas.Bool.{cases_lt, cases_eq, ne_eqb, le-ltb, lt-ltb, and_parts, eqb-true}
use Rattle.std.proofs.lemmas.List.{append-nil, length-drop, length-take-le, get_or-take}
use Rattle.std.proofs.lemmas.List.Sums.{passes_at_first, split_at_first, fails_before_first}
use Rattle.std.specs.Str.{IsUtf8, IsCharBoundary}
use Rattle.std.proofs.lemmas.Str.{IsCharBoundary-after_ascii}
use Rattle.escapes.specs.Cuts.{cut_at}
use Rattle.escapes.specs.Escape.{spelled_as, spell}
use Rattle.escapes.proofs.EscapeLemmas.{escaped_back, escaped_free}
use Rattle.ci_formats.specs.declared.percent.Field.{Field}
use Rattle.ci_formats.specs.declared.percent.Field.TheVariants.{Message, Property}
use Rattle.ci_formats.specs.Percent.{own_spelling, spelling, escape}
use Rattle.ci_formats.specs.Unescape.{are, own_meant, meant, turned, unescape, ends, meant_at}

-- ---- an escape turned back

-- a byte that is no `%` is kept
kept : (field : Field) (x : ℕ) (rest : List ℕ) → (x == 0x25) ≡ false → unescape field (x ∷ rest) ≡ x ∷ unescape field rest
unfolding unescape
kept field x [] other = refl
kept field x (a ∷ []) other = refl
kept field x (a ∷ (b ∷ rest)) other = rw other refl

own_back : (field : Field) (x : ℕ) (rest : List ℕ) → (x == 0x25) ≡ false → unescape field (spelled_as x (own_spelling field x) ++ rest) ≡ x ∷ unescape field rest
unfolding unescape
own_back Message x rest other = kept Message x rest other
own_back Property x rest other = go (cases_eq x 0x3A) (cases_eq x 0x2C)
  where
    go : (x ≡ 0x3A) ⊎ (x ≡ 0x3A → ⊥) → (x ≡ 0x2C) ⊎ (x ≡ 0x2C → ⊥) → unescape Property (spelled_as x (own_spelling Property x) ++ rest) ≡ x ∷ unescape Property rest
    go (inl e) b = rw e refl
    go (inr a) (inl e) = rw e refl
    go (inr a) (inr b) = rw (ne_eqb x 0x3A a, ne_eqb x 0x2C b) (kept Property x rest other)

byte_back : (field : Field) (x : ℕ) (rest : List ℕ) → unescape field (spell (spelling field) x ++ rest) ≡ x ∷ unescape field rest
unfolding spelling unescape
byte_back field x rest = go field (cases_eq x 0x25) (cases_eq x 0x0D) (cases_eq x 0x0A)
  where
    go : (field : Field) → (x ≡ 0x25) ⊎ (x ≡ 0x25 → ⊥) → (x ≡ 0x0D) ⊎ (x ≡ 0x0D → ⊥) → (x ≡ 0x0A) ⊎ (x ≡ 0x0A → ⊥) → unescape field (spell (spelling field) x ++ rest) ≡ x ∷ unescape field rest
    go field (inl e) b c = rw e refl
    go field (inr a) (inl e) c = rw e refl
    go field (inr a) (inr b) (inl e) = rw e refl
    go field (inr a) (inr b) (inr c) = rw (ne_eqb x 0x25 a, ne_eqb x 0x0D b, ne_eqb x 0x0A c) (own_back field x rest (ne_eqb x 0x25 a))

pub percent_back : (field : Field) (text : List ℕ) → unescape field (escape field text) ≡ text
unfolding unescape
percent_back field text = escaped_back (spelling field) (unescape field) refl (byte_back field) text

-- ---- what is escaped holds nothing that ends it

own_free : (field : Field) (x : ℕ) → (x == 0x0D) ≡ false → (x == 0x0A) ≡ false → list_any (ends field) (spelled_as x (own_spelling field x)) ≡ false
own_free Message x b c = rw (b, c) refl
own_free Property x b c = go (cases_eq x 0x3A) (cases_eq x 0x2C)
  where
    go : (x ≡ 0x3A) ⊎ (x ≡ 0x3A → ⊥) → (x ≡ 0x2C) ⊎ (x ≡ 0x2C → ⊥) → list_any (ends Property) (spelled_as x (own_spelling Property x)) ≡ false
    go (inl e) d = rw e refl
    go (inr a) (inl e) = rw e refl
    go (inr a) (inr d) = rw (ne_eqb x 0x3A a, ne_eqb x 0x2C d, b, c, ne_eqb x 0x3A a, ne_eqb x 0x2C d) refl

byte_free : (field : Field) (x : ℕ) → list_any (ends field) (spell (spelling field) x) ≡ false
unfolding spelling
byte_free field x = go field (cases_eq x 0x25) (cases_eq x 0x0D) (cases_eq x 0x0A)
  where
    go : (field : Field) → (x ≡ 0x25) ⊎ (x ≡ 0x25 → ⊥) → (x ≡ 0x0D) ⊎ (x ≡ 0x0D → ⊥) → (x ≡ 0x0A) ⊎ (x ≡ 0x0A → ⊥) → list_any (ends field) (spell (spelling field) x) ≡ false
    go Message (inl e) b c = rw e refl
    go Message (inr a) (inl e) c = rw e refl
    go Message (inr a) (inr b) (inl e) = rw e refl
    go Property (inl e) b c = rw e refl
    go Property (inr a) (inl e) c = rw e refl
    go Property (inr a) (inr b) (inl e) = rw e refl
    go field (inr a) (inr b) (inr c) = rw (ne_eqb x 0x25 a, ne_eqb x 0x0D b, ne_eqb x 0x0A c) (own_free field x (ne_eqb x 0x0D b) (ne_eqb x 0x0A c))

pub percent_free : (field : Field) (text : List ℕ) → list_any (ends field) (escape field text) ≡ false
percent_free field text = escaped_free (spelling field) (ends field) (byte_free field) text

-- ---- the bytes behind a `%`

pub meant_some : (field : Field) (text : List ℕ) (byte : ℕ) → Some byte ≡ meant_at field text → byte ∷ unescape field (drop 2 text) ≡ unescape field (0x25 ∷ text)
unfolding unescape
meant_some field [] byte is = cc
meant_some field (a ∷ []) byte is = cc
meant_some field (a ∷ (b ∷ rest)) byte is = ap (λ o. turned 0x25 o (unescape field rest) (unescape field (a ∷ (b ∷ rest)))) is

pub meant_none : (field : Field) (text : List ℕ) → None ≡ meant_at field text → 0x25 ∷ unescape field text ≡ unescape field (0x25 ∷ text)
unfolding unescape
meant_none field [] is = refl
meant_none field (a ∷ []) is = refl
meant_none field (a ∷ (b ∷ rest)) is = ap (λ o. turned 0x25 o (unescape field rest) (unescape field (a ∷ (b ∷ rest)))) is

abbrev pub is_percent : ℕ → Bool
is_percent b = b == 0x25

-- what stands before the first `%` is kept
pub before_kept : (field : Field) (front rest : List ℕ) → ((k : ℕ) → k < length front → is_percent (get_or front k 0) ≡ false) → unescape field (front ++ rest) ≡ front ++ unescape field rest
before_kept field [] rest plain = refl
before_kept field (x ∷ xs) rest plain =
    kept field x (xs ++ rest) (plain 0 (omega arith)) ∙ ap (λ l. x ∷ l) (before_kept field xs rest (λ k h. plain (suc k) (omega arith)))

not_some : (at : ℕ) → Some at ≡ None → ⊥
not_some at same = cc

-- ---- where a text is cut

abbrev Cut : Type 0
Cut = List ℕ × List ℕ

-- the first such byte stands between these two
pub record IsCut (byte : ℕ) (text front rest : List ℕ) : Type 0 where
  pub within : position_or_len (λ b. b == byte) text < length text
  pub before : front ≡ take (position_or_len (λ b. b == byte) text) text
  pub after : rest ≡ drop (position_or_len (λ b. b == byte) text + 1) text

abbrev first_or : List ℕ → Option Cut → List ℕ
first_or other None = other
first_or other (Some p) = p.0

abbrev second_or : List ℕ → Option Cut → List ℕ
second_or other None = other
second_or other (Some p) = p.1

not_cut : (p : Cut) → Some p ≡ None → ⊥
not_cut p same = cc

pub is_cut : (byte : ℕ) (text front rest : List ℕ) → Some (front, rest) ≡ cut_at byte text → IsCut byte text front rest
unfolding cut_at
is_cut byte text front rest is = go (cases_lt (position_or_len (λ b. b == byte) text) (length text))
  where
    go : (position_or_len (λ b. b == byte) text < length text) ⊎ (length text ≤ position_or_len (λ b. b == byte) text) → IsCut byte text front rest
    go (inl lt) =
        let same : ◌≡◌ {A = Option Cut} (Some (front, rest)) (Some (take (position_or_len (λ b. b == byte) text) text, drop (position_or_len (λ b. b == byte) text + 1) text)) = rw (lt-ltb _ _ lt) at is in
        record { within = lt; before = ap (first_or front) same; after = ap (second_or rest) same }
    go (inr all) = absurd (not_cut (front, rest) (rw (le-ltb _ _ all) at is))

pub is_whole : (byte : ℕ) (text : List ℕ) → None ≡ cut_at byte text → length text ≤ position_or_len (λ b. b == byte) text
unfolding cut_at
is_whole byte text is = go (cases_lt (position_or_len (λ b. b == byte) text) (length text))
  where
    go : (position_or_len (λ b. b == byte) text < length text) ⊎ (length text ≤ position_or_len (λ b. b == byte) text) → length text ≤ position_or_len (λ b. b == byte) text
    go (inl lt) = absurd (not_cut _ (sym (rw (lt-ltb _ _ lt) at is)))
    go (inr all) = all

-- what stands behind the first `%` is turned back
pub at_percent : (field : Field) (text front rest : List ℕ) → Some (front, rest) ≡ cut_at 0x25 text → front ++ unescape field (0x25 ∷ rest) ≡ unescape field text
at_percent field text front rest is =
    let found = is_cut 0x25 text front rest is in
    let at = position_or_len is_percent text in
    let within : at < length text = found.within in
    let byte : get_or text at 0 ≡ 0x25 = eqb-true (get_or text at 0) 0x25 (passes_at_first is_percent text 0 within) in
    let split : text ≡ take at text ++ 0x25 ∷ drop (at + 1) text = split_at_first is_percent text 0 within ∙ ap (λ b. take at text ++ b ∷ drop (at + 1) text) byte in
    let size : length (take at text) ≡ at = length-take-le at text (omega (arith, within)) in
    let plain : (k : ℕ) → k < length (take at text) → is_percent (get_or (take at text) k 0) ≡ false =
    λ k h. ap is_percent (get_or-take at text k 0 (omega (arith, size, h))) ∙ fails_before_first is_percent text k 0 (omega (arith, size, h)) in
    ap₂ (λ l r. l ++ unescape field (0x25 ∷ r)) found.before found.after
    ∙ sym (ap (unescape field) split ∙ before_kept field (take at text) (0x25 ∷ drop (at + 1) text) plain)

pub no_percent : (field : Field) (text : List ℕ) → None ≡ cut_at 0x25 text → unescape field text ≡ text
unfolding unescape
no_percent field text is =
    let all : length text ≤ position_or_len is_percent text = is_whole 0x25 text is in
    sym (ap (unescape field) (append-nil text)) ∙ before_kept field text [] (λ k h. fails_before_first is_percent text k 0 (omega (arith, all, h))) ∙ append-nil text

-- what stands behind a cut is shorter
pub cut_shorter : (byte : ℕ) (text front rest : List ℕ) → Some (front, rest) ≡ cut_at byte text → length rest < length text
cut_shorter byte text front rest is =
    let found = is_cut byte text front rest is in
    let at = position_or_len (λ b. b == byte) text in
    let within : at < length text = found.within in
    let same : length rest ≡ length (drop (at + 1) text) = ap length found.after in
    omega (arith, same, length-drop (at + 1) text, within)

-- ---- what two bytes stand for is ASCII, and so is the second

pub record AreLow (b byte : ℕ) : Type 0 where
  pub second : b < 128
  pub value : byte < 128

low_from : (first second a b byte value : ℕ) → are first second a b ≡ true → second < 128 → value < 128 → Some byte ≡ Some value → AreLow b byte
low_from first second a b byte value are_both low_second low_value is =
    let same : b ≡ second = eqb-true b second (and_parts (a == first) (b == second) are_both).1 in
    let same_value : byte ≡ value = ap (λ o. unwrap_or o byte) is in
    record { second = omega (arith, same, low_second); value = omega (arith, same_value, low_value) }

own_low : (field : Field) (a b byte : ℕ) → Some byte ≡ own_meant field a b → AreLow b byte
own_low Message a b byte is = absurd (not_some byte is)
own_low Property a b byte is = go (are 0x33 0x41 a b) (are 0x32 0x43 a b) refl refl
  where
    go : (x y : Bool) → are 0x33 0x41 a b ≡ x → are 0x32 0x43 a b ≡ y → AreLow b byte
    go true y e f = low_from 0x33 0x41 a b byte 0x3A e (lit< tt) (lit< tt) (rw e at is)
    go false true e f = low_from 0x32 0x43 a b byte 0x2C f (lit< tt) (lit< tt) (rw (e, f) at is)
    go false false e f = absurd (not_some byte (rw (e, f) at is))

meant_low : (field : Field) (a b byte : ℕ) → Some byte ≡ meant field a b → AreLow b byte
meant_low field a b byte is = go (are 0x32 0x35 a b) (are 0x30 0x44 a b) (are 0x30 0x41 a b) refl refl refl
  where
    go : (x y z : Bool) → are 0x32 0x35 a b ≡ x → are 0x30 0x44 a b ≡ y → are 0x30 0x41 a b ≡ z → AreLow b byte
    go true y z e f g = low_from 0x32 0x35 a b byte 0x25 e (lit< tt) (lit< tt) (rw e at is)
    go false true z e f g = low_from 0x30 0x44 a b byte 0x0D f (lit< tt) (lit< tt) (rw (e, f) at is)
    go false false true e f g = low_from 0x30 0x41 a b byte 0x0A g (lit< tt) (lit< tt) (rw (e, f, g) at is)
    go false false false e f g = own_low field a b byte (rw (e, f, g) at is)

pub meant_boundary : (field : Field) (text : List ℕ) (byte : ℕ) → IsUtf8 text → Some byte ≡ meant_at field text → IsCharBoundary text 2
meant_boundary field [] byte utf8 is = absurd (not_some byte is)
meant_boundary field (a ∷ []) byte utf8 is = absurd (not_some byte is)
meant_boundary field (a ∷ (b ∷ rest)) byte utf8 is = IsCharBoundary-after_ascii (a ∷ (b ∷ rest)) 1 utf8 (omega arith) (meant_low field a b byte is).second

pub meant_ascii : (field : Field) (text : List ℕ) (byte : ℕ) → Some byte ≡ meant_at field text → byte < 128
meant_ascii field [] byte is = absurd (not_some byte is)
meant_ascii field (a ∷ []) byte is = absurd (not_some byte is)
meant_ascii field (a ∷ (b ∷ rest)) byte is = (meant_low field a b byte is).value
