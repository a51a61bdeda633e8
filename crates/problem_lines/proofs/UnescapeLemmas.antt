-- One escape at a time.
use Rattle.std.proofs.Common.{◌≡◌, ℕ, suc, ◌<◌, ◌≤◌, Bool, true, false, ◌==◌, if◌then◌else◌, List, [], ◌∷◌, ◌++◌, length, drop, get_or, Option, Some, None, unwrap_or, refl, sym, ap, ◌∙◌, inl, inr, ◌⊎◌, arith}
use Rattle.std.specs.Str.{IsUtf8, IsCharBoundary}
use Rattle.std.specs.List.{position_or_len, before_first, after_first}
use Rattle.std.proofs.lemmas.Str.{IsCharBoundary-after_ascii}
use Rattle.std.proofs.lemmas.Bool.{cases_eq, cases_lt, ne_eqb, eqb-true, le-ltb, lt-ltb}
use Rattle.std.proofs.lemmas.Bool.Decides.{nat_tests}
use Rattle.std.proofs.lemmas.List.{length-append, length-take-le, get_or-take}
use Rattle.std.proofs.lemmas.List.Sums.{split_at_first, fails_before_first, passes_at_first}
use Rattle.escapes.specs.Cuts.{cut_at}
use Rattle.problem_lines.specs.Parsed.{meant, meaning_of, unescape_from, unescape}

meant_low : (letter byte : ℕ) → meant letter ≡ Some byte → letter < 128
meant_low letter byte is = grind (arith, nat_tests)

not_none : (byte : ℕ) → None ≡ Some byte → ⊥
not_none byte same = cc

pub meant_value_low : (letter byte : ℕ) → Some byte ≡ meant letter → byte < 128
meant_value_low letter byte is = grind (arith, nat_tests)

pub meant_ascii : (text : List ℕ) (byte : ℕ) → Some byte ≡ meaning_of text → byte < 128
meant_ascii [] byte some = cc
meant_ascii (x ∷ xs) byte some = meant_value_low x byte some

pub meant_none : (text : List ℕ) → None ≡ meaning_of text → unescape text ≡ unescape_from true text
unfolding unescape_from
meant_none [] none = refl
meant_none (x ∷ xs) none = go (cases_eq x 0x5C)
  where
    go : (x ≡ 0x5C) ⊎ (x ≡ 0x5C → ⊥) → unescape (x ∷ xs) ≡ unescape_from true (x ∷ xs)
    go (inl e) = absurd (not_none 0x5C (none ∙ ap meant e))
    go (inr ne) = ap (λ b. if b then unescape_from true xs else x ∷ unescape_from false xs) (ne_eqb x 0x5C ne) ∙ ap (λ o. unwrap_or o x ∷ unescape_from false xs) none

pub meant_some : (text : List ℕ) (byte : ℕ) → Some byte ≡ meaning_of text → byte ∷ unescape (drop 1 text) ≡ unescape_from true text
unfolding unescape_from
meant_some [] byte some = cc
meant_some (x ∷ xs) byte some = ap (λ o. unwrap_or o x ∷ unescape xs) some

pub meant_boundary : (text : List ℕ) (byte : ℕ) → IsUtf8 text → Some byte ≡ meaning_of text → IsCharBoundary text 1
meant_boundary [] byte utf8 some = cc
meant_boundary (x ∷ xs) byte utf8 some = IsCharBoundary-after_ascii (x ∷ xs) 0 utf8 (omega arith) (meant_low x byte (sym some))

-- ---- up to the next backslash

plain_step : (front rest : List ℕ) → ((k : ℕ) → k < length front → (get_or front k 0 == 0x5C) ≡ false) → unescape (front ++ 0x5C ∷ rest) ≡ front ++ unescape_from true rest
unfolding unescape_from
plain_step [] rest plain = refl
plain_step (x ∷ xs) rest plain = rw (plain 0 (omega arith)) (ap (λ l. x ∷ l) (plain_step xs rest (λ k h. plain (suc k) (omega arith))))

plain_whole : (text : List ℕ) → ((k : ℕ) → k < length text → (get_or text k 0 == 0x5C) ≡ false) → unescape text ≡ text
unfolding unescape_from
plain_whole [] plain = refl
plain_whole (x ∷ xs) plain = rw (plain 0 (omega arith)) (ap (λ l. x ∷ l) (plain_whole xs (λ k h. plain (suc k) (omega arith))))

pub not_some : (p : List ℕ × List ℕ) → Some p ≡ None → ⊥
not_some p same = cc

pub not_there : (p : List ℕ × List ℕ) → None ≡ Some p → ⊥
not_there p same = cc

abbrev pub first_of : Option (List ℕ × List ℕ) → List ℕ → List ℕ
first_of None other = other
first_of (Some p) other = p.0

abbrev pub second_of : Option (List ℕ × List ℕ) → List ℕ → List ℕ
second_of None other = other
second_of (Some p) other = p.1

abbrev is_backslash : ℕ → Bool
is_backslash b = b == 0x5C

pub cut_parts : (text front back : List ℕ) → Some (front, back) ≡ cut_at 0x5C text → (unescape text ≡ front ++ unescape_from true back) × (length back < length text)
unfolding cut_at
cut_parts text front back found = go (cases_lt (position_or_len is_backslash text) (length text))
  where
    go : (position_or_len is_backslash text < length text) ⊎ (length text ≤ position_or_len is_backslash text) → (unescape text ≡ front ++ unescape_from true back) × (length back < length text)
    go (inr all) = absurd (not_some (front, back) (found ∙ rw (le-ltb (position_or_len is_backslash text) (length text) all) refl))
    go (inl lt) =
        let same : ◌≡◌ {A = Option (List ℕ × List ℕ)} (Some (front, back)) (Some (before_first is_backslash text, after_first is_backslash text)) = found ∙ rw (lt-ltb (position_or_len is_backslash text) (length text) lt) refl in
        let fronts : front ≡ before_first is_backslash text = ap (λ o. first_of o front) same in
        let backs : back ≡ after_first is_backslash text = ap (λ o. second_of o back) same in
        let byte : get_or text (position_or_len is_backslash text) 0 ≡ 0x5C = eqb-true (get_or text (position_or_len is_backslash text) 0) 0x5C (passes_at_first is_backslash text 0 lt) in
        let split : text ≡ front ++ 0x5C ∷ back = split_at_first is_backslash text 0 lt ∙ rw (sym fronts, sym backs, byte) refl in
        let size : length front ≡ position_or_len is_backslash text = ap length fronts ∙ length-take-le (position_or_len is_backslash text) text (omega arith) in
        let plain : (k : ℕ) → k < length front → (get_or front k 0 == 0x5C) ≡ false =
        λ k h. ap (λ l. get_or l k 0 == 0x5C) fronts ∙ ap (λ b. b == 0x5C) (get_or-take (position_or_len is_backslash text) text k 0 (omega arith)) ∙ fails_before_first is_backslash text k 0 (omega arith) in
        (ap unescape split ∙ plain_step front back plain, omega (arith, ap length split, length-append front (0x5C ∷ back)))

pub cut_whole : (text : List ℕ) → None ≡ cut_at 0x5C text → unescape text ≡ text
unfolding cut_at
cut_whole text none = go (cases_lt (position_or_len is_backslash text) (length text))
  where
    go : (position_or_len is_backslash text < length text) ⊎ (length text ≤ position_or_len is_backslash text) → unescape text ≡ text
    go (inl lt) = absurd (not_there (before_first is_backslash text, after_first is_backslash text) (none ∙ rw (lt-ltb (position_or_len is_backslash text) (length text) lt) refl))
    go (inr all) = plain_whole text (λ k h. fails_before_first is_backslash text k 0 (omega arith))
