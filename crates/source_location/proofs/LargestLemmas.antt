-- The largest boundary with a location, as a value.
use Rattle.std.proofs.Common.{◌≡◌, ℕ, ◌+◌, ◌≤◌, ◌<◌, ◌==◌, ◌&&◌, ◌||◌, Bool, true, false, cond, List, [], ◌∷◌, length, get_or, reverse, refl, sym, ap, subst, ◌∙◌, arith, leb, Option, Some, None, zero, suc, ⊎_elim}
use Rattle.std.specs.List.{find, range_with_len}
use Rattle.std.specs.Option.{MatchOption}
use Rattle.std.specs.Str.{IsUtf8, IsCharBoundary}
use Rattle.std.proofs.lemmas.Bool.{cases_lt, and_parts, eqb-true, false≢true}
use Rattle.std.proofs.lemmas.Bool.Decides.{nat_tests}
use Rattle.std.proofs.lemmas.List.{reverse-append}
use Rattle.source_location.specs.declared.SourceLocation.{SourceLocation}
use Rattle.source_location.specs.Characters.{is_char_start}
use Rattle.source_location.specs.Locations.{location_of, IsOffsetAt, is_boundary, has_location, offset_at, LeadsBack}
use Rattle.source_location.proofs.Counting.{range_with_len_push}
use Rattle.source_location.proofs.OffsetLemmas.{found_again_is}

-- the answer is the largest number below n that passes, or none where none does
abbrev pub IsLargest : (ℕ → Bool) → ℕ → Option ℕ → Type 0
IsLargest p n answer =
    MatchOption answer ((o : ℕ) → o < n → p o ≡ true → ⊥) (λ found. (found < n) × (p found ≡ true) × ((o : ℕ) → o < n → p o ≡ true → o ≤ found))

largest_more : (p : ℕ → Bool) (n : ℕ) (answer : Option ℕ) (said : Bool) → p n ≡ said → IsLargest p n answer → IsLargest p (suc n) (cond said (Some n) answer)
largest_more p n answer true e known = (omega arith, e, λ o h yes. omega (arith, h))
largest_more p n None false e none = λ o h yes.
    ⊎_elim (λ lt. none o lt yes) (λ ge. let same : o ≡ n = omega arith in false≢true (sym e ∙ ap p (sym same) ∙ yes)) (cases_lt o n)
largest_more p n (Some q) false e (within, passes, largest) = (
  omega (arith, within),
  passes,
  λ o h yes.
      ⊎_elim (λ lt. largest o lt yes) (λ ge. let same : o ≡ n = omega arith in absurd (false≢true (sym e ∙ ap p (sym same) ∙ yes))) (cases_lt o n),
)

-- a search downwards finds it
find_down : (p : ℕ → Bool) (n : ℕ) → IsLargest p n (find p (reverse (range_with_len 0 n)))
find_down p zero = λ o h yes. omega (arith, h)
find_down p (suc n) =
    let last : reverse (range_with_len 0 (suc n)) ≡ n ∷ reverse (range_with_len 0 n) =
    ap reverse (range_with_len_push 0 n n (omega arith)) ∙ reverse-append (range_with_len 0 n) (n ∷ []) in
    subst (λ l. IsLargest p (suc n) (find p l)) (sym last) (largest_more p n (find p (reverse (range_with_len 0 n))) (p n) refl (find_down p n))

boundary_true : (text : List ℕ) (o : ℕ) → IsCharBoundary text o → is_boundary text o ≡ true
boundary_true text o b = let low = b.0 in let high = b.1 in grind (arith, nat_tests)

boundary_is : (text : List ℕ) (o : ℕ) → o ≤ length text → is_boundary text o ≡ true → IsCharBoundary text o
boundary_is text o le e = (le, λ lt high. start_high (length text) o (get_or text o 0) lt high e)
  where
    start_high : (n o byte : ℕ) → o < n → 128 ≤ byte → leb n o || is_char_start byte ≡ true → 192 ≤ byte
    start_high n o byte lt high e = grind (arith, nat_tests)

has_true : (text : List ℕ) (place : SourceLocation) (o : ℕ) → location_of text o ≡ place → has_location text place o ≡ true
has_true text place o e =
    rw (eqb_same (location_of text o).row place.row (ap (λ l. l.row) e), eqb_same (location_of text o).column place.column (ap (λ l. l.column) e)) refl
  where
    eqb_same : (a b : ℕ) → a ≡ b → (a == b) ≡ true
    eqb_same a b e = grind (arith, nat_tests)

has_is : (text : List ℕ) (place : SourceLocation) (o : ℕ) → has_location text place o ≡ true → location_of text o ≡ place
has_is text place o e =
    let parts = and_parts ((location_of text o).row == place.row) ((location_of text o).column == place.column) e in
    let row : (location_of text o).row ≡ place.row = eqb-true _ _ parts.0 in
    let column : (location_of text o).column ≡ place.column = eqb-true _ _ parts.1 in
    λ i. record { row = row i; column = column i }

at_largest : (text : List ℕ) (place : SourceLocation) (answer : Option ℕ) → IsLargest (λ o. is_boundary text o && has_location text place o) (length text + 1) answer → IsOffsetAt text place answer
at_largest text place None none = λ o b e. none o (omega (arith, b.0)) (rw (boundary_true text o b, has_true text place o e) refl)
at_largest text place (Some q) (within, passes, largest) =
    let parts = and_parts (is_boundary text q) (has_location text place q) passes in
    (boundary_is text q (omega (arith, within)) parts.0, has_is text place q parts.1, λ o b e. largest o (omega (arith, b.0)) (rw (boundary_true text o b, has_true text place o e) refl))

-- the value is what the relation says
pub offset_at_is : (text : List ℕ) (place : SourceLocation) → IsOffsetAt text place (offset_at text place)
unfolding offset_at
offset_at_is text place = at_largest text place _ (find_down (λ o. is_boundary text o && has_location text place o) (length text + 1))

-- and nothing else is
pub offset_same : (text : List ℕ) (place : SourceLocation) (a b : Option ℕ) → IsOffsetAt text place a → IsOffsetAt text place b → a ≡ b
offset_same text place None None p q = refl
offset_same text place None (Some y) p q = absurd (p y q.0 q.1)
offset_same text place (Some x) None p q = absurd (q x p.0 p.1)
offset_same text place (Some x) (Some y) p q = ap Some (omega (arith, p.2 y q.0 q.1, q.2 x p.0 p.1))

pub offset_value : (text : List ℕ) (place : SourceLocation) (answer : Option ℕ) → IsOffsetAt text place answer → answer ≡ offset_at text place
offset_value text place answer known = offset_same text place answer (offset_at text place) known (offset_at_is text place)

-- a boundary is the offset of its own location
pub leads_back : (text : List ℕ) (o : ℕ) → IsUtf8 text → IsCharBoundary text o → LeadsBack text o
leads_back text o utf8 b = found_again_is text o (offset_at text (location_of text o)) utf8 b (offset_at_is text (location_of text o))
