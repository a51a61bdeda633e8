-- Counts over a mapped list, and elements whose numbers rise.
use Rattle.std.proofs.Common.{◌≡◌, ℕ, ◌+◌, ◌<◌, ◌≤◌, Bool, cond, List, [], ◌∷◌, length, map, get_or, refl, sym, ap, ◌∙◌, arith, count_by, ⊎_elim}
use Rattle.std.specs.List.Sorted.{IsNonDecreasingBy, IsStrictlyIncreasing}
use Rattle.std.proofs.lemmas.Bool.{cases_lt}
use Rattle.std.proofs.lemmas.List.{length-map, get_or-map}
use Rattle.std.proofs.lemmas.List.Kept.{AllPairs-from_increasing}
use Rattle.std.proofs.lemmas.List.Sums.{sum_by-cons}
pub use Rattle.bytecount.proofs.Counting.{count_by_cut, count_by_splits, range_with_len_push}

-- a count over what h gives of the elements
pub count_by_map : {X Y : Type 0} (p : Y → Bool) (h : X → Y) (xs : List X) → count_by p (map h xs) ≡ count_by (λ x. p (h x)) xs
count_by_map p h [] = refl
count_by_map p h (x ∷ xs) =
    sum_by-cons (λ y. cond (p y) 1 0) (h x) (map h xs)
    ∙ ap (λ n. cond (p (h x)) 1 0 + n) (count_by_map p h xs)
    ∙ sym (sum_by-cons (λ y. cond (p (h y)) 1 0) x xs)

-- elements whose numbers rise do not fall
pub rises_by : {X : Type 0} (h : X → ℕ) (xs : List X) → IsStrictlyIncreasing (map h xs) → IsNonDecreasingBy h xs
rises_by h xs rise i j d le within =
    ⊎_elim (λ lt.
    let before : i < length xs = omega (arith, lt, within) in
    let size = length-map xs h in
    let order = AllPairs-from_increasing (map h xs) rise i j 0 lt (omega (arith, size, within)) in
    omega (arith, order, get_or-map h xs i d 0 before, get_or-map h xs j d 0 within))
    (λ ge.
    let same : i ≡ j = omega (arith, le, ge) in
    omega (arith, ap (λ k. h (get_or xs k d)) same))
    (cases_lt i j)
