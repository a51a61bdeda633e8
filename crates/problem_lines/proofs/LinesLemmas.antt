-- One line at a time.
use Rattle.std.proofs.Common.{◌≡◌, ℕ, suc, ◌+◌, ◌<◌, ◌≤◌, Bool, false, ◌==◌, List, [], ◌∷◌, ◌++◌, length, take, drop, get_or, Option, Some, None, refl, sym, ap, ◌∙◌, inl, inr, ◌⊎◌, arith, append_assoc}
use Rattle.std.specs.Str.{IsUtf8, IsCharBoundary}
use Rattle.std.specs.List.{position_or_len, before_first, after_first, onto_first}
use Rattle.std.proofs.lemmas.Str.{IsCharBoundary-after_ascii}
use Rattle.std.proofs.lemmas.Bool.{cases_lt, eqb-true, le-ltb, lt-ltb}
use Rattle.std.proofs.lemmas.List.{length-append, length-take-le, get_or-take, get_or_at, take_at}
use Rattle.std.proofs.lemmas.List.Sums.{split_at_first, fails_before_first, passes_at_first}
use Rattle.std.proofs.Math.Seq.{drop-append-add}
use Rattle.escapes.specs.Cuts.{cut_at}
use Rattle.problem_lines.specs.Lines.{lines_of}
use Rattle.problem_lines.proofs.UnescapeLemmas.{not_some, not_there, first_of, second_of}

abbrev is_lf : ℕ → Bool
is_lf b = b == 0x0A

-- a cut at an LF, said of the whole text
pub record IsCut (text front back : List ℕ) : Type 0 where
  pub split : text ≡ front ++ 0x0A ∷ back
  pub plain : (k : ℕ) → k < length front → (get_or front k 0 == 0x0A) ≡ false

pub cut_is_cut : (text front back : List ℕ) → Some (front, back) ≡ cut_at 0x0A text → IsCut text front back
unfolding cut_at
cut_is_cut text front back found = go (cases_lt (position_or_len is_lf text) (length text))
  where
    go : (position_or_len is_lf text < length text) ⊎ (length text ≤ position_or_len is_lf text) → IsCut text front back
    go (inr all) = absurd (not_some (front, back) (found ∙ rw (le-ltb (position_or_len is_lf text) (length text) all) refl))
    go (inl lt) =
        let same : ◌≡◌ {A = Option (List ℕ × List ℕ)} (Some (front, back)) (Some (before_first is_lf text, after_first is_lf text)) = found ∙ rw (lt-ltb (position_or_len is_lf text) (length text) lt) refl in
        let fronts : front ≡ before_first is_lf text = ap (λ o. first_of o front) same in
        let backs : back ≡ after_first is_lf text = ap (λ o. second_of o back) same in
        let byte : get_or text (position_or_len is_lf text) 0 ≡ 0x0A = eqb-true (get_or text (position_or_len is_lf text) 0) 0x0A (passes_at_first is_lf text 0 lt) in
        let size : length front ≡ position_or_len is_lf text = ap length fronts ∙ length-take-le (position_or_len is_lf text) text (omega arith) in
        record {
          split = split_at_first is_lf text 0 lt ∙ rw (sym fronts, sym backs, byte) refl;
          plain = λ k h. ap (λ l. get_or l k 0 == 0x0A) fronts ∙ ap (λ b. b == 0x0A) (get_or-take (position_or_len is_lf text) text k 0 (omega arith)) ∙ fails_before_first is_lf text k 0 (omega arith);
        }

cut_is_none : (text : List ℕ) → None ≡ cut_at 0x0A text → (k : ℕ) → k < length text → (get_or text k 0 == 0x0A) ≡ false
unfolding cut_at
cut_is_none text none = go (cases_lt (position_or_len is_lf text) (length text))
  where
    go : (position_or_len is_lf text < length text) ⊎ (length text ≤ position_or_len is_lf text) → (k : ℕ) → k < length text → (get_or text k 0 == 0x0A) ≡ false
    go (inl lt) = absurd (not_there (before_first is_lf text, after_first is_lf text) (none ∙ rw (lt-ltb (position_or_len is_lf text) (length text) lt) refl))
    go (inr all) = λ k h. fails_before_first is_lf text k 0 (omega arith)

pub lines_front : (front back : List ℕ) → ((k : ℕ) → k < length front → (get_or front k 0 == 0x0A) ≡ false) → lines_of (front ++ 0x0A ∷ back) ≡ (front ++ 0x0A ∷ []) ∷ lines_of back
unfolding lines_of
lines_front [] back plain = refl
lines_front (x ∷ xs) back plain = rw (plain 0 (omega arith)) (ap (onto_first x) (lines_front xs back (λ k h. plain (suc k) (omega arith))))

lines_last : (text : List ℕ) → 0 < length text → ((k : ℕ) → k < length text → (get_or text k 0 == 0x0A) ≡ false) → lines_of text ≡ text ∷ []
unfolding lines_of
lines_last [] some plain = absurd (omega arith)
lines_last (x ∷ []) some plain = rw (plain 0 (omega arith)) refl
lines_last (x ∷ (y ∷ ys)) some plain = rw (plain 0 (omega arith)) (ap (onto_first x) (lines_last (y ∷ ys) (omega arith) (λ k h. plain (suc k) (omega arith))))

pub first_line_cut : (text front back : List ℕ) → Some (front, back) ≡ cut_at 0x0A text
    → (lines_of text ≡ take (length front + 1) text ∷ lines_of (drop (length front + 1) text)) × (length (drop (length front + 1) text) < length text)
first_line_cut text front back found =
    let c = cut_is_cut text front back found in
    let first : take (length front + 1) text ≡ front ++ 0x0A ∷ [] =
    ap (take (length front + 1)) (c.split ∙ sym (append_assoc front (0x0A ∷ []) back)) ∙ take_at (front ++ 0x0A ∷ []) back (length front + 1) (omega (arith, length-append front (0x0A ∷ []))) in
    let after : drop (length front + 1) text ≡ back = ap (drop (length front + 1)) c.split ∙ drop-append-add front (0x0A ∷ back) 1 in
    (ap lines_of c.split ∙ lines_front front back c.plain ∙ rw (first, after) refl, omega (arith, ap length after, ap length c.split, length-append front (0x0A ∷ back)))

pub first_line_none : (text : List ℕ) → 0 < length text → None ≡ cut_at 0x0A text → lines_of text ≡ text ∷ lines_of []
unfolding lines_of
first_line_none text some none = lines_last text some (cut_is_none text none)

pub line_boundary : (text front back : List ℕ) → IsUtf8 text → Some (front, back) ≡ cut_at 0x0A text → IsCharBoundary text (length front + 1)
line_boundary text front back utf8 found =
    let c = cut_is_cut text front back found in
    let long : length front < length text = omega (arith, ap length c.split, length-append front (0x0A ∷ back)) in
    let byte : get_or text (length front) 0 ≡ 0x0A = ap (λ l. get_or l (length front) 0) c.split ∙ get_or_at front 0x0A back 0 (length front) refl in
    IsCharBoundary-after_ascii text (length front) utf8 long (omega (arith, byte))
