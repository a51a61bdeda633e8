-- Ranges of numbers, as lists.
use Rattle.std.proofs.Common.{◌≡◌, ℕ, ◌+◌, ◌<◌, ◌∷◌, ◌++◌, All, ap, ◌∙◌, arith, suc, zero}
use Rattle.std.specs.List.{range_with_len}
use Rattle.std.specs.List.Sorted.{IsStrictlyIncreasing}
use Rattle.std.proofs.lemmas.List.FromFn.{length-range_with_len, get_or-range_with_len}

-- a range in two parts
pub range_with_len-append : (a n m : ℕ) → range_with_len a (n + m) ≡ range_with_len a n ++ range_with_len (a + n) m
range_with_len-append a zero m = ap (λ k. range_with_len a k) (omega arith) ∙ ap (λ k. range_with_len k m) (omega arith)
range_with_len-append a (suc n) m =
    let one_more : suc n + m ≡ suc (n + m) = omega arith in
    ap (λ k. range_with_len a k) one_more ∙ ap (λ l. a ∷ l) (range_with_len-append (a + 1) n m ∙ ap (λ k. range_with_len (a + 1) n ++ range_with_len k m) (omega arith))

-- the numbers of a range rise
pub range_rises : (a n : ℕ) → IsStrictlyIncreasing (range_with_len a n)
range_rises a n k h =
    let size = length-range_with_len a n in
    omega (arith, get_or-range_with_len a n k 0 (omega (arith, size)), get_or-range_with_len a n (k + 1) 0 (omega (arith, size)))

-- a range holds nothing past its end
pub range_within : (n : ℕ) → All (λ at. at < n) (range_with_len 0 n)
range_within n k d h =
    let size = length-range_with_len 0 n in
    omega (arith, get_or-range_with_len 0 n k d (omega (arith, size)))
