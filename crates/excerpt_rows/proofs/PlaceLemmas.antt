-- The list of the places of one text in another.
use Rattle.std.proofs.Common.{◌≡◌, ℕ, ◌+◌, ◌-◌, ◌<◌, ◌≤◌, if◌then◌else◌, Bool, true, false, List, [], ◌∷◌, ◌++◌, length, drop, take, min, slice_index, MatchOption, refl, sym, ap, ◌∙◌, subst, inl, inr, arith}
use Rattle.std.proofs.lemmas.Bool.{cases_lt}
use Rattle.std.proofs.lemmas.Bool.Decides.{Decides-eqb}
use Rattle.std.proofs.lemmas.List.{drop_more, ext_get_or, get_or-drop, get_or-take, get_or_append_left, length-drop, length-take, take-append-drop}
use Rattle.std.proofs.lemmas.Slice.Eq.{starts_is}
use Rattle.excerpt_rows.specs.Aligned.{begins_with, only_one, places_from}
use Rattle.excerpt_rows.specs.Search.{HasNoOnlyPlace, IsOnlyPlace, IsPlace}

-- a row that begins with a character is that character and the rest of it
pub first_is : (row rest : List ℕ) (c at : ℕ) → c ∷ rest ≡ drop at row → (at < length row) × (c ≡ slice_index row at) × (rest ≡ drop (at + 1) row)
first_is row rest c at is =
    let size : length (drop at row) ≡ length rest + 1 = sym (ap length is) ∙ omega arith in
    let within : at < length row = omega (arith, size, length-drop at row) in
    let both : c ∷ rest ≡ slice_index row at ∷ drop (at + 1) row = is ∙ drop_more row at 0 within in
    (within, ap (λ (xs : List ℕ). slice_index xs 0) both, ap (drop 1) both)

here_if : (core text rest : List ℕ) (at : ℕ) → at < length text → rest ≡ drop at text → begins_with rest core ≡ true → IsPlace core text at
here_if core text rest at within is holds =
    let split : rest ≡ core ++ drop (length core) rest = (starts_is Decides-eqb rest core (begins_with rest core) refl).0 holds in
    let first : take (length core) rest ≡ core = ap (take (length core)) split ∙ take_all_left core (drop (length core) rest) in
    let size : min (length core) (length rest) ≡ length core = sym (length-take (length core) rest) ∙ ap length first in
    let left : length rest ≡ length text - at = ap length is ∙ length-drop at text in
    record {
      within = omega (arith, size, left, within);
      same = λ k below.
          sym (get_or_append_left core (drop (length core) rest) 0 k below) ∙ ap (λ (xs : List ℕ). slice_index xs k) (sym split ∙ is) ∙ get_or-drop at text k 0;
    }
  where
    take_all_left : (xs ys : List ℕ) → take (length xs) (xs ++ ys) ≡ xs
    take_all_left [] ys = refl
    take_all_left (x ∷ xs) ys = ap (λ (zs : List ℕ). x ∷ zs) (take_all_left xs ys)

here_is : (core text rest : List ℕ) (at : ℕ) → rest ≡ drop at text → IsPlace core text at → begins_with rest core ≡ true
here_is core text rest at is place =
    let left : length rest ≡ length text - at = ap length is ∙ length-drop at text in
    let size : length (take (length core) rest) ≡ length core = length-take (length core) rest ∙ omega (arith, left, place.within) in
    let first : take (length core) rest ≡ core =
    ext_get_or 0 (take (length core) rest) core size
    (λ k below.
    let inside : k < length core = omega (arith, below, size) in
    get_or-take (length core) rest k 0 inside ∙ ap (λ (xs : List ℕ). slice_index xs k) is ∙ get_or-drop at text k 0 ∙ sym (place.same k inside)) in
    (starts_is Decides-eqb rest core (begins_with rest core) refl).1 (drop (length core) rest)
    (sym (take-append-drop (length core) rest) ∙ ap (λ (xs : List ℕ). xs ++ drop (length core) rest) first)

-- none, the only one, or two of the places from one on
abbrev PlacesBy : List ℕ → List ℕ → ℕ → List ℕ → Type 0
PlacesBy core text from [] = (k : ℕ) → from ≤ k → IsPlace core text k → ⊥
PlacesBy core text from (p ∷ []) = (from ≤ p) × IsPlace core text p × ((k : ℕ) → from ≤ k → IsPlace core text k → k ≡ p)
PlacesBy core text from (p ∷ q ∷ ps) = (from ≤ p) × (p < q) × IsPlace core text p × IsPlace core text q

one_more : (core text more : List ℕ) (at : ℕ) → IsPlace core text at → PlacesBy core text (at + 1) more → PlacesBy core text at (at ∷ more)
one_more core text [] at place so = (
  omega arith,
  place,
  λ k low is.
      elim (cases_lt at k) [
        | inl past ↦ absurd (so k (omega (arith, past)) is)
        | inr here ↦ omega (arith, here, low)
      ],
)
one_more core text (p ∷ []) at place so = (omega arith, omega (arith, so.0), place, so.1)
one_more core text (p ∷ q ∷ ps) at place so = (omega arith, omega (arith, so.0), place, so.2)

none_more : (core text more : List ℕ) (at : ℕ) → (IsPlace core text at → ⊥) → PlacesBy core text (at + 1) more → PlacesBy core text at more
none_more core text [] at none so = λ k low is.
    elim (cases_lt at k) [
      | inl past ↦ so k (omega (arith, past)) is
      | inr here ↦ none (let e : k ≡ at = omega (arith, here, low) in subst (λ n. IsPlace core text n) e is)
    ]
none_more core text (p ∷ []) at none so = (
  omega (arith, so.0),
  so.1,
  λ k low is.
      elim (cases_lt at k) [
        | inl past ↦ so.2 k (omega (arith, past)) is
        | inr here ↦ absurd (none (let e : k ≡ at = omega (arith, here, low) in subst (λ n. IsPlace core text n) e is))
      ],
)
none_more core text (p ∷ q ∷ ps) at none so = (omega (arith, so.0), so.1, so.2, so.3)

more_by : (core text rest more : List ℕ) (at : ℕ) (here : Bool) → at < length text → rest ≡ drop at text → begins_with rest core ≡ here → PlacesBy core text (at + 1) more
    → PlacesBy core text at ((if here then at ∷ [] else []) ++ more)
more_by core text rest more at true within is test so = one_more core text more at (here_if core text rest at within is test) so
more_by core text rest more at false within is test so = none_more core text more at (λ place. (let holds = here_is core text rest at is place in cc)) so

listed : (core text rest : List ℕ) (at : ℕ) → 0 < length core → rest ≡ drop at text → PlacesBy core text at (places_from core at rest)
unfolding places_from
listed core text [] at some is = λ k low place.
    let none : length (drop at text) ≡ 0 = sym (ap length is) in
    omega (arith, none, length-drop at text, place.within, low, some)
listed core text (c ∷ cs) at some is =
    let first = first_is text cs c at is in
    more_by core text (c ∷ cs) (places_from core (at + 1) cs) at (begins_with (c ∷ cs) core) first.0 is refl (listed core text cs (at + 1) some first.2)

only_by : (core text places : List ℕ) → PlacesBy core text 0 places → MatchOption (only_one places) (HasNoOnlyPlace core text) (IsOnlyPlace core text)
only_by core text [] so = λ place is. so place (omega arith) is.here
only_by core text (p ∷ []) so = record { here = so.1; only = λ k is. so.2 k (omega arith) is }
only_by core text (p ∷ q ∷ ps) so = λ place is. (let a = is.only p so.2 in let b = is.only q so.3 in omega (arith, a, b, so.1))

pub only_is : (core text : List ℕ) → 0 < length core → MatchOption (only_one (places_from core 0 text)) (HasNoOnlyPlace core text) (IsOnlyPlace core text)
only_is core text some = only_by core text (places_from core 0 text) (listed core text text 0 some refl)
