-- Vectors, which a proof sees as the lists of their lanes.
use Rattle.std.proofs.Common.{◌≡◌, ℕ, zero, suc, ◌+◌, ◌*◌, ◌/◌, ◌%◌, ◌<◌, ◌≤◌, Bool, true, false, not, cond, eqb, ◌==◌, List, [], ◌∷◌, map, length, replicate, drop, sum, sum_by, count_by, refl, sym, ap, ◌∙◌, arith, w8, bit_and}
use Rattle.std.specs.Simd.{first_chunks}
use Rattle.std.specs.Simd.Lanes.{zip2, sel_l, top, Each1}
use Rattle.std.proofs.lemmas.List.{length-map}
use Rattle.std.proofs.lemmas.List.Sums.{sum-map, sum_by-cons, sum_by-take-drop}
use Rattle.std.proofs.lemmas.Simd.{tops_compared, zip2_splat, map-map}
use Rattle.bytecount.specs.Counts.{begins_char}
use Rattle.bytecount.specs.Words.{flags}
use Rattle.bytecount.proofs.FlagLemmas.{at_each_byte}
use Rattle.bytecount.proofs.SumLemmas.{count_in_chunks}

-- ---- flags
selected : (test : ℕ → Bool) (bytes : List ℕ) (n : ℕ) → length bytes ≡ n → sel_l (map test bytes) (replicate n 1) (replicate n 0) ≡ flags test bytes
selected test [] n e = refl
selected test (b ∷ bytes) zero e = absurd (omega arith)
selected test (b ∷ bytes) (suc n) e = ap (λ l. cond (test b) 1 0 ∷ l) (selected test bytes n (omega arith))

pub equal_lanes : (bytes : List ℕ) (needle : ℕ) → length bytes ≡ 32
    → sel_l (map (top 7) (zip2 (λ a b. cond (eqb a b) 255 0) bytes (replicate 32 needle))) (replicate 32 1) (replicate 32 0) ≡ flags (λ byte. byte == needle) bytes
equal_lanes bytes needle long =
    ap (λ m. sel_l m (replicate 32 1) (replicate 32 0)) (tops_compared w8 eqb bytes (replicate 32 needle) ∙ zip2_splat eqb bytes 32 needle long)
    ∙ selected (λ byte. byte == needle) bytes 32 long

abbrev top_bits_begin : ℕ → Bool
top_bits_begin byte = not (eqb (bit_and byte 192) 128)

begins_at_each : (bytes : List ℕ) → Each1 (λ b. b < 256) bytes → flags top_bits_begin bytes ≡ flags begins_char bytes
begins_at_each [] small = refl
begins_at_each (b ∷ bytes) small =
    let here : cond (top_bits_begin b) 1 0 ≡ cond (begins_char b) 1 0 = at_each_byte (λ b. cond (top_bits_begin b) 1 0) (λ b. cond (begins_char b) 1 0) refl b small.0 in
    λ i. here i ∷ begins_at_each bytes small.1 i

pub leading_lanes : (bytes : List ℕ) → length bytes ≡ 32 → Each1 (λ b. b < 256) bytes
    → sel_l (map (top 7) (zip2 (λ a b. cond (not (eqb a b)) 255 0) (zip2 bit_and bytes (replicate 32 192)) (replicate 32 128))) (replicate 32 1) (replicate 32 0) ≡ flags begins_char bytes
leading_lanes bytes long small =
    let masked = zip2_splat bit_and bytes 32 192 long in
    let still_long : length (map (λ b. bit_and b 192) bytes) ≡ 32 = length-map bytes (λ b. bit_and b 192) ∙ long in
    let differ : ℕ → ℕ → Bool = λ a b. not (eqb a b) in
    ap (λ l. sel_l (map (top 7) (zip2 (λ a b. cond (not (eqb a b)) 255 0) l (replicate 32 128))) (replicate 32 1) (replicate 32 0)) masked
    ∙ ap (λ m. sel_l m (replicate 32 1) (replicate 32 0))
    (tops_compared w8 differ (map (λ b. bit_and b 192) bytes) (replicate 32 128) ∙ zip2_splat differ (map (λ b. bit_and b 192) bytes) 32 128 still_long
    ∙ map-map (λ x. differ x 128) (λ b. bit_and b 192) bytes)
    ∙ selected top_bits_begin bytes 32 long ∙ begins_at_each bytes small

-- ---- one vector more
abbrev pub wrapped_sum : ℕ → ℕ → ℕ
wrapped_sum a b = (a + b) % 256

flags_small : (test : ℕ → Bool) (bytes : List ℕ) → Each1 (λ n. n ≤ 1) (flags test bytes)
flags_small test [] = tt
flags_small test (b ∷ bytes) = (one (test b), flags_small test bytes)
  where
    one : (t : Bool) → cond t 1 0 ≤ 1
    one true = omega arith
    one false = omega arith

small_after : (i : ℕ) (xs ys : List ℕ) → i < 255 → Each1 (λ n. n ≤ i) xs → Each1 (λ n. n ≤ 1) ys → Each1 (λ n. n ≤ i + 1) (zip2 wrapped_sum xs ys)
small_after i [] ys room most more = tt
small_after i (x ∷ xs) [] room most more = tt
small_after i (x ∷ xs) (y ∷ ys) room most more =
    let a : x ≤ i = most.0 in
    let b : y ≤ 1 = more.0 in
    (omega arith, small_after i xs ys room most.1 more.1)

sum_after : (i : ℕ) (xs ys : List ℕ) → i < 255 → length xs ≡ length ys → Each1 (λ n. n ≤ i) xs → Each1 (λ n. n ≤ 1) ys → sum (zip2 wrapped_sum xs ys) ≡ sum xs + sum ys
sum_after i [] [] room long most more = refl
sum_after i [] (y ∷ ys) room long most more = absurd (omega arith)
sum_after i (x ∷ xs) [] room long most more = absurd (omega arith)
sum_after i (x ∷ xs) (y ∷ ys) room long most more =
    let a : x ≤ i = most.0 in
    let b : y ≤ 1 = more.0 in
    let whole : wrapped_sum x y ≡ x + y = omega arith in
    let rest : sum (zip2 wrapped_sum xs ys) ≡ sum xs + sum ys = sum_after i xs ys room (omega arith) most.1 more.1 in
    omega (arith, sum_by-cons (λ n. n) (wrapped_sum x y) (zip2 wrapped_sum xs ys), sum_by-cons (λ n. n) x xs, sum_by-cons (λ n. n) y ys)

pub record AddsLanes (test : ℕ → Bool) (counts more : List ℕ) (i : ℕ) (bytes : List ℕ) : Type 0 where
  pub small : Each1 (λ n. n ≤ i + 1) (zip2 wrapped_sum counts more)
  pub total : sum (zip2 wrapped_sum counts more) ≡ sum counts + count_by test bytes

-- the flags of a vector are added to counters of which none is past i
pub adds_lanes : (test : ℕ → Bool) (counts more : List ℕ) (i : ℕ) (bytes : List ℕ) → i < 255 → length counts ≡ 32 → length bytes ≡ 32
    → Each1 (λ n. n ≤ i) counts → more ≡ flags test bytes → AddsLanes test counts more i bytes
adds_lanes test counts more i bytes room long lanes most is =
    let flagged : length counts ≡ length (flags test bytes) = long ∙ sym (length-map bytes (λ b. cond (test b) 1 0) ∙ lanes) in
    record {
      small = rw is (small_after i counts (flags test bytes) room most (flags_small test bytes));
      total =
          ap (λ l. sum (zip2 wrapped_sum counts l)) is ∙ sum_after i counts (flags test bytes) room flagged most (flags_small test bytes)
          ∙ ap (λ n. sum counts + n) (sum-map (λ b. cond (test b) 1 0) bytes);
    }

-- ---- the bytes of a slice, as vectors and a rest
pub vectors_and_rest : (test : ℕ → Bool) (bytes : List ℕ) (vectors : List (List ℕ)) (rest : List ℕ)
    → vectors ≡ first_chunks 32 (length bytes / 32) bytes → rest ≡ drop (length bytes / 32 * 32) bytes
    → sum_by (λ lanes. count_by test lanes) vectors + count_by test rest ≡ count_by test bytes
vectors_and_rest test bytes vectors rest vectors_are rest_is =
    (λ i. sum_by (λ lanes. count_by test lanes) (vectors_are i) + count_by test (rest_is i))
    ∙ ap (λ n. n + count_by test (drop (length bytes / 32 * 32) bytes)) (count_in_chunks test 32 (length bytes / 32) bytes)
    ∙ sum_by-take-drop (λ b. cond (test b) 1 0) bytes (length bytes / 32 * 32)
