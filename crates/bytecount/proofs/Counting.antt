-- Counts over a list that is cut where a test begins to fail, and ranges of numbers.
use Rattle.std.proofs.Common.{◌≡◌, ℕ, ◌+◌, ◌<◌, ◌≤◌, Bool, true, false, cond, List, [], ◌∷◌, ◌++◌, length, get_or, refl, sym, ap, ◌∙◌, arith, count_by, suc, zero}
use Rattle.std.specs.List.{range_with_len, prefix_len}
use Rattle.std.specs.List.Sorted.{IsPartitionedBy}
use Rattle.std.proofs.lemmas.Bool.{false≢true}
use Rattle.std.proofs.lemmas.List.Sums.{sum_by-cons, prefix_len-le-length, prefix_len_passes, prefix_len_stops}

-- the first n elements pass and the others fail, so n pass
pub count_by_cut : {X : Type 0} (p : X → Bool) (xs : List X) (n : ℕ) → n ≤ length xs
    → ((k : ℕ) (d : X) → k < n → p (get_or xs k d) ≡ true)
    → ((k : ℕ) (d : X) → n ≤ k → k < length xs → p (get_or xs k d) ≡ false)
    → count_by p xs ≡ n
count_by_cut p [] n le pass fail = omega arith
count_by_cut p (x ∷ xs) zero le pass fail =
    let here : p x ≡ false = fail 0 x (omega arith) (omega arith) in
    let rest = count_by_cut p xs zero (omega arith) (λ k d h. absurd (omega arith)) (λ k d low high. fail (suc k) d (omega arith) (omega arith)) in
    sum_by-cons (λ y. cond (p y) 1 0) x xs ∙ rw here (omega (arith, rest))
count_by_cut p (x ∷ xs) (suc n) le pass fail =
    let here : p x ≡ true = pass 0 x (omega arith) in
    let rest = count_by_cut p xs n (omega arith) (λ k d h. pass (suc k) d (omega arith)) (λ k d low high. fail (suc k) d (omega arith) (omega arith)) in
    sum_by-cons (λ y. cond (p y) 1 0) x xs ∙ rw here (omega (arith, rest))

-- one number more
pub range_with_len_push : (a n m : ℕ) → a + n ≡ m → range_with_len a (suc n) ≡ range_with_len a n ++ m ∷ []
range_with_len_push a zero m e = ap (λ k. k ∷ []) (omega arith)
range_with_len_push a (suc n) m e = ap (λ l. a ∷ l) (range_with_len_push (a + 1) n m (omega arith))

pub false_unless : (b : Bool) → (b ≡ true → ⊥) → b ≡ false
false_unless true h = absurd (h refl)
false_unless false h = refl

-- of a list on which a test passes up to some place and fails from there on, the count is that place
pub count_by_splits : {X : Type 0} (p : X → Bool) (xs : List X) → IsPartitionedBy p xs
    → ((k : ℕ) (d : X) → k < count_by p xs → p (get_or xs k d) ≡ true) × ((k : ℕ) (d : X) → count_by p xs ≤ k → k < length xs → p (get_or xs k d) ≡ false)
count_by_splits p xs parted =
    let n = prefix_len p xs in
    let fails : (k : ℕ) (d : _) → n ≤ k → k < length xs → p (get_or xs k d) ≡ false =
    λ k d low high. false_unless (p (get_or xs k d)) (λ passes. false≢true (sym (prefix_len_stops p xs d (omega (arith, low, high))) ∙ parted n k d low high passes)) in
    let same = count_by_cut p xs n (prefix_len-le-length p xs) (λ k d h. prefix_len_passes p xs k d h) fails in
    rw same ((λ k d h. prefix_len_passes p xs k d h), fails)
