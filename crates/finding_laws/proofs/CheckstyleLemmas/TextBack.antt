-- An escaped text, read as an attribute's, is the text.
use Rattle.std.proofs.Common.{◌≡◌, ◌∙◌, ℕ, zero, suc, ◌+◌, ◌<◌, ◌==◌, ◌&&◌, not, if◌then◌else◌, List, [], ◌∷◌, ◌++◌, length, take, drop, Bool, true, false, Option, Some, None, ap, arith, codes, refl, sym, inl, inr, ◌⊎◌, append_assoc}
use Rattle.std.specs.Char.{encode_utf8}
use Rattle.std.proofs.lemmas.Bool.{cases_eq, ne_eqb}
use Rattle.std.proofs.lemmas.List.{append-nil}
use Rattle.escapes.specs.Escape.{escaped, spell, spelled_as}
use Rattle.ci_formats.specs.Xml.{entity, escape}
use Rattle.xml_values.specs.Marks.{after_first}
use Rattle.xml_values.specs.Text.{begins_break, from_reference, meaning, plain, read_after, read_byte, text_after}
use Rattle.finding_laws.proofs.CheckstyleLemmas.Run.{run_by, run_len_zero}

-- what comes of a byte in front of any text: with enough turns before, there are enough after
pub record IsRead (x : ℕ) : Type 0 where
  pub on : (n : ℕ) (out rest : List ℕ) → length (spell entity x ++ rest) < n → (m : ℕ) × (length rest < m) × (read_after n true out (spell entity x ++ rest) ≡ read_after m true (out ++ x ∷ []) rest)

-- ---- a byte that isn't escaped

read_same : (x : ℕ) → (x == 0x09) ≡ false → (x == 0x0A) ≡ false → (x == 0x0D) ≡ false → read_byte true x ≡ x
read_same x tab lf cr = go (cases_eq x 0x20)
  where
    go : (x ≡ 0x20) ⊎ (x ≡ 0x20 → ⊥) → read_byte true x ≡ x
    go (inl e) = rw e refl
    go (inr other) = rw (ne_eqb x 0x20 other, tab, lf, cr) refl

or_less : ℕ → List ℕ → Bool → List ℕ
or_less x rest cr = if cr && begins_break rest then plain true rest else read_byte true x ∷ plain true rest

plain_same : (x : ℕ) (rest : List ℕ) → (x == 0x09) ≡ false → (x == 0x0A) ≡ false → (x == 0x0D) ≡ false → plain true (x ∷ rest) ≡ x ∷ plain true rest
unfolding or_less
plain_same x rest tab lf cr = ap (or_less x rest) cr ∙ ap (λ y. y ∷ plain true rest) (read_same x tab lf cr)

abbrev before_amp : List ℕ → ℕ
before_amp text = run_by (λ byte. not (byte == 0x26)) text

-- a turn, up to a number of bytes
abbrev turned : ℕ → List ℕ → List ℕ → ℕ → Option (List ℕ)
turned n out text k = from_reference (read_after n true) (out ++ plain true (take k text)) (after_first (drop k text))

read_by : (n : ℕ) (out text : List ℕ) → read_after (suc n) true out text ≡ turned n out text (before_amp text)
unfolding read_after
read_by n out text = rw run_len_zero refl

plain_turn : (x n : ℕ) (out rest : List ℕ) → (x == 0x26) ≡ false → ((l : List ℕ) → plain true (x ∷ l) ≡ x ∷ plain true l) → read_after (suc n) true out (x ∷ rest) ≡ read_after (suc n) true (out ++ x ∷ []) rest
plain_turn x n out rest amp same =
    let k : ℕ = before_amp rest in
    read_by n out (x ∷ rest)
    ∙ (ap (λ b. turned n out (x ∷ rest) (if not b then suc k else 0)) amp
    ∙ (ap (λ o. from_reference (read_after n true) o (after_first (drop k rest))) (ap (λ l. out ++ l) (same (take k rest)) ∙ sym (append_assoc out (x ∷ []) (plain true (take k rest))))
    ∙ sym (read_by n (out ++ x ∷ []) rest)))

plain_read : (x : ℕ) → entity x ≡ None → (x == 0x26) ≡ false → (x == 0x09) ≡ false → (x == 0x0A) ≡ false → (x == 0x0D) ≡ false → IsRead x
plain_read x none amp tab lf cr = record { on = go }
  where
    is : spell entity x ≡ x ∷ []
    is = ap (spelled_as x) none

    go : (n : ℕ) (out rest : List ℕ) → length (spell entity x ++ rest) < n → (m : ℕ) × (length rest < m) × (read_after n true out (spell entity x ++ rest) ≡ read_after m true (out ++ x ∷ []) rest)
    go zero out rest h = absurd (omega arith)
    go (suc n) out rest h =
        let long : length (spell entity x ++ rest) ≡ suc (length rest) = ap (λ l. length (l ++ rest)) is in
        (suc n, omega (arith, h, long), ap (λ l. read_after (suc n) true out (l ++ rest)) is ∙ plain_turn x n out rest amp (λ l. plain_same x l tab lf cr))

-- ---- an escaped byte

abbrev escaped_read : List ℕ → ℕ → Type 0
escaped_read text code = (n : ℕ) (out rest : List ℕ) → length (text ++ rest) < n → (m : ℕ) × (length rest < m) × (read_after n true out (text ++ rest) ≡ read_after m true (out ++ code ∷ []) rest)

amp_read : escaped_read (codes "&amp;") 0x26
unfolding read_after meaning encode_utf8
amp_read zero out rest h = absurd (omega arith)
amp_read (suc n) out rest h = (n, omega (arith, h), ap (λ o. read_after n true (o ++ 0x26 ∷ []) rest) (append-nil out))

lt_read : escaped_read (codes "&lt;") 0x3C
unfolding read_after meaning encode_utf8
lt_read zero out rest h = absurd (omega arith)
lt_read (suc n) out rest h = (n, omega (arith, h), ap (λ o. read_after n true (o ++ 0x3C ∷ []) rest) (append-nil out))

gt_read : escaped_read (codes "&gt;") 0x3E
unfolding read_after meaning encode_utf8
gt_read zero out rest h = absurd (omega arith)
gt_read (suc n) out rest h = (n, omega (arith, h), ap (λ o. read_after n true (o ++ 0x3E ∷ []) rest) (append-nil out))

quot_read : escaped_read (codes "&quot;") 0x22
unfolding read_after meaning encode_utf8
quot_read zero out rest h = absurd (omega arith)
quot_read (suc n) out rest h = (n, omega (arith, h), ap (λ o. read_after n true (o ++ 0x22 ∷ []) rest) (append-nil out))

apos_read : escaped_read (codes "&apos;") 0x27
unfolding read_after meaning encode_utf8
apos_read zero out rest h = absurd (omega arith)
apos_read (suc n) out rest h = (n, omega (arith, h), ap (λ o. read_after n true (o ++ 0x27 ∷ []) rest) (append-nil out))

tab_read : escaped_read (codes "&#9;") 0x09
unfolding read_after meaning encode_utf8
tab_read zero out rest h = absurd (omega arith)
tab_read (suc n) out rest h = (n, omega (arith, h), ap (λ o. read_after n true (o ++ 0x09 ∷ []) rest) (append-nil out))

lf_read : escaped_read (codes "&#10;") 0x0A
unfolding read_after meaning encode_utf8
lf_read zero out rest h = absurd (omega arith)
lf_read (suc n) out rest h = (n, omega (arith, h), ap (λ o. read_after n true (o ++ 0x0A ∷ []) rest) (append-nil out))

cr_read : escaped_read (codes "&#13;") 0x0D
unfolding read_after meaning encode_utf8
cr_read zero out rest h = absurd (omega arith)
cr_read (suc n) out rest h = (n, omega (arith, h), ap (λ o. read_after n true (o ++ 0x0D ∷ []) rest) (append-nil out))

-- ---- a text

byte_read : (x : ℕ) → IsRead x
unfolding entity
byte_read x = go (cases_eq x 0x26) (cases_eq x 0x3C) (cases_eq x 0x3E) (cases_eq x 0x22) (cases_eq x 0x27) (cases_eq x 0x09) (cases_eq x 0x0A) (cases_eq x 0x0D)
  where
    go : (x ≡ 0x26) ⊎ (x ≡ 0x26 → ⊥) → (x ≡ 0x3C) ⊎ (x ≡ 0x3C → ⊥) → (x ≡ 0x3E) ⊎ (x ≡ 0x3E → ⊥) → (x ≡ 0x22) ⊎ (x ≡ 0x22 → ⊥) → (x ≡ 0x27) ⊎ (x ≡ 0x27 → ⊥)
        → (x ≡ 0x09) ⊎ (x ≡ 0x09 → ⊥) → (x ≡ 0x0A) ⊎ (x ≡ 0x0A → ⊥) → (x ≡ 0x0D) ⊎ (x ≡ 0x0D → ⊥) → IsRead x
    go (inl e) b c d f g h k = rw e (record { on = amp_read })
    go (inr a) (inl e) c d f g h k = rw e (record { on = lt_read })
    go (inr a) (inr b) (inl e) d f g h k = rw e (record { on = gt_read })
    go (inr a) (inr b) (inr c) (inl e) f g h k = rw e (record { on = quot_read })
    go (inr a) (inr b) (inr c) (inr d) (inl e) g h k = rw e (record { on = apos_read })
    go (inr a) (inr b) (inr c) (inr d) (inr f) (inl e) h k = rw e (record { on = tab_read })
    go (inr a) (inr b) (inr c) (inr d) (inr f) (inr g) (inl e) k = rw e (record { on = lf_read })
    go (inr a) (inr b) (inr c) (inr d) (inr f) (inr g) (inr h) (inl e) = rw e (record { on = cr_read })
    go (inr a) (inr b) (inr c) (inr d) (inr f) (inr g) (inr h) (inr k) = plain_read x
        (rw (ne_eqb x 0x26 a, ne_eqb x 0x3C b, ne_eqb x 0x3E c, ne_eqb x 0x22 d, ne_eqb x 0x27 f, ne_eqb x 0x09 g, ne_eqb x 0x0A h, ne_eqb x 0x0D k) refl)
        (ne_eqb x 0x26 a) (ne_eqb x 0x09 g) (ne_eqb x 0x0A h) (ne_eqb x 0x0D k)

read_on : (text : List ℕ) (n : ℕ) (out : List ℕ) → length (escape text) < n → read_after n true out (escape text) ≡ Some (out ++ text)
unfolding escaped read_after
read_on [] zero out h = absurd (omega arith)
read_on [] (suc n) out h = refl
read_on (x ∷ xs) n out h =
    let step = (byte_read x).on n out (escape xs) h in
    step.2 ∙ (read_on xs step.0 (out ++ x ∷ []) step.1 ∙ ap Some (append_assoc out (x ∷ []) xs))

-- each text comes back, whatever is in it
pub text_back : (text : List ℕ) → text_after true [] (escape text) ≡ Some text
text_back text = read_on text (length (escape text) + 1) [] (omega arith)
