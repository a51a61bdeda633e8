-- The bytes of vectors that end rows.
use Rattle.std.proofs.Common.{◌≡◌, ℕ, zero, suc, ◌+◌, ◌-◌, ◌*◌, ◌/◌, ◌%◌, ◌^◌, ◌<◌, ◌≤◌, Bool, true, false, not, cond, eqb, ltb, nat_eq, ◌==◌, ◌||◌, List, [], ◌∷◌, map, length, replicate, take, drop, sum, sum_by, count_by, refl, sym, subst, ap, ◌∙◌, arith, w8}
use Rattle.std.specs.List.{list_any}
use Rattle.std.specs.Simd.{first_chunks}
use Rattle.std.specs.Simd.Lanes.{chunk, zip2, mask_l, sel_l, top, Each1}
use Rattle.std.proofs.lemmas.List.{length-map, length-drop, length-take-le, take_all, take-append-drop}
use Rattle.std.proofs.lemmas.List.Folds.{list_any-append}
use Rattle.std.proofs.lemmas.List.Sums.{sum_by-take-drop}
use Rattle.std.proofs.Math.Bool.{or_assoc}
use Rattle.std.proofs.Math.Seq.{take-add}
use Rattle.std.proofs.lemmas.Simd.{tops_compared, zip2_splat, map-map, mask_l-mod, length-zip2, length-sel_l}
use Rattle.std.proofs.lemmas.Bool.Decides.{nat_tests}
use Rattle.bytecount.specs.Words.{flags}
use Rattle.bytecount.proofs.FlagLemmas.{at_each_byte}
use Rattle.bytecount.proofs.LaneLemmas.{AddsLanes, adds_lanes, wrapped_sum}
use Rattle.bytecount.proofs.SumLemmas.{count_in_chunks}

-- ---- one vector
abbrev less : ℕ → ℕ → ℕ
less a b = (a + (256 - b)) % 256

abbrev bit : Bool → ℕ
bit b = cond b 1 0

same_test : (a b : Bool) → bit a ≡ bit b → a ≡ b
same_test true true e = refl
same_test true false e = absurd (omega (arith, e))
same_test false true e = absurd (omega (arith, e))
same_test false false e = refl

returns_at_each : (bytes : List ℕ) → Each1 (λ b. b < 256) bytes → map (λ b. eqb (less b 13) 0) bytes ≡ map (λ b. eqb b 13) bytes
returns_at_each [] small = refl
returns_at_each (b ∷ bytes) small =
    let here : eqb (less b 13) 0 ≡ eqb b 13 = same_test _ _ (at_each_byte (λ b. bit (eqb (less b 13) 0)) (λ b. bit (eqb b 13)) refl b small.0) in
    λ i. here i ∷ returns_at_each bytes small.1 i

feeds_at_each : (bytes : List ℕ) → Each1 (λ b. b < 256) bytes → map (λ b. bit (eqb (less b 13) 253)) bytes ≡ map (λ b. bit (eqb b 10)) bytes
feeds_at_each [] small = refl
feeds_at_each (b ∷ bytes) small =
    let here : bit (eqb (less b 13) 253) ≡ bit (eqb b 10) = at_each_byte (λ b. bit (eqb (less b 13) 253)) (λ b. bit (eqb b 10)) refl b small.0 in
    λ i. here i ∷ feeds_at_each bytes small.1 i

-- a CR is 13 above 0
pub less_returns : (bytes : List ℕ) → length bytes ≡ 32 → Each1 (λ b. b < 256) bytes → map (λ b. eqb b 0) (zip2 less bytes (replicate 32 13)) ≡ map (λ b. eqb b 13) bytes
less_returns bytes long small =
    ap (map (λ b. eqb b 0)) (zip2_splat less bytes 32 13 long) ∙ map-map (λ b. eqb b 0) (λ b. less b 13) bytes ∙ returns_at_each bytes small

-- an LF wraps to 253
pub less_feeds : (bytes : List ℕ) → length bytes ≡ 32 → Each1 (λ b. b < 256) bytes → flags (λ byte. byte == 253) (zip2 less bytes (replicate 32 13)) ≡ flags (λ byte. byte == 10) bytes
less_feeds bytes long small =
    ap (map (λ b. bit (eqb b 253))) (zip2_splat less bytes 32 13 long) ∙ map-map (λ b. bit (eqb b 253)) (λ b. less b 13) bytes ∙ feeds_at_each bytes small

-- a mask is 0 exactly where no lane is set
mask_any : (bits : List Bool) → not (nat_eq (mask_l bits) 0) ≡ list_any (λ b. b) bits
mask_any [] = refl
mask_any (true ∷ bits) = odd (mask_l bits)
  where
    odd : (n : ℕ) → not (nat_eq (1 + 2 * n) 0) ≡ true
    odd n = grind (arith, nat_tests)
mask_any (false ∷ bits) = twice (mask_l bits) ∙ mask_any bits
  where
    twice : (n : ℕ) → not (nat_eq (0 + 2 * n) 0) ≡ not (nat_eq n 0)
    twice n = grind (arith, nat_tests)

any_map : (test : ℕ → Bool) (values : List ℕ) → list_any (λ b. b) (map test values) ≡ list_any test values
any_map test [] = refl
any_map test (v ∷ values) = ap (λ b. test v || b) (any_map test values)

pub zero_lanes : (values : List ℕ) → length values ≡ 32
    → not (nat_eq (mask_l (map (top 7) (zip2 (λ a b. cond (eqb a b) 255 0) values (replicate 32 0))) % 2 ^ 64) 0) ≡ list_any (λ byte. byte == 0) values
zero_lanes values long =
    let bits : List Bool = map (λ byte. byte == 0) values in
    ap (λ ms. not (nat_eq (mask_l ms % 2 ^ 64) 0)) (tops_compared w8 eqb values (replicate 32 0) ∙ zip2_splat eqb values 32 0 long)
    ∙ ap (λ m. not (nat_eq m 0)) (mask_l-mod bits 64 (omega (arith, long, length-map values (λ byte. byte == 0))))
    ∙ mask_any bits ∙ any_map (λ byte. byte == 0) values

-- ---- one pair of vectors more
abbrev pub least_of : List ℕ → List ℕ → List ℕ
least_of xs ys = sel_l (map (top 7) (zip2 (λ a b. cond (ltb a b) 255 0) xs ys)) xs ys

zero_of_least : (x y : ℕ) → eqb (cond (ltb x y) x y) 0 ≡ (eqb x 0 || eqb y 0)
zero_of_least x y = grind (arith, nat_tests)

either_or : (a b c d : Bool) → ((a || b) || (c || d)) ≡ ((a || c) || (b || d))
either_or true b c d = refl
either_or false true true d = refl
either_or false true false d = refl
either_or false false c d = refl

zero_selected : (xs ys : List ℕ) → length xs ≡ length ys → list_any (λ byte. byte == 0) (sel_l (zip2 ltb xs ys) xs ys) ≡ (list_any (λ byte. byte == 0) xs || list_any (λ byte. byte == 0) ys)
zero_selected [] [] long = refl
zero_selected [] (y ∷ ys) long = absurd (omega arith)
zero_selected (x ∷ xs) [] long = absurd (omega arith)
zero_selected (x ∷ xs) (y ∷ ys) long =
    (λ i. zero_of_least x y i || zero_selected xs ys (omega arith) i)
    ∙ either_or (eqb x 0) (eqb y 0) (list_any (λ byte. byte == 0) xs) (list_any (λ byte. byte == 0) ys)

zero_in_least : (xs ys : List ℕ) → length xs ≡ length ys → list_any (λ byte. byte == 0) (least_of xs ys) ≡ (list_any (λ byte. byte == 0) xs || list_any (λ byte. byte == 0) ys)
zero_in_least xs ys long = ap (λ ms. list_any (λ byte. byte == 0) (sel_l ms xs ys)) (tops_compared w8 ltb xs ys) ∙ zero_selected xs ys long

length-least_of : (xs ys : List ℕ) → length xs ≡ length ys → length (least_of xs ys) ≡ length xs
length-least_of xs ys long =
    let compared = length-zip2 ltb xs ys long in
    ap (λ ms. length (sel_l ms xs ys)) (tops_compared w8 ltb xs ys)
    ∙ length-sel_l (zip2 ltb xs ys) xs ys compared (compared ∙ long) ∙ compared

any_cut : (test : ℕ → Bool) (bytes : List ℕ) (n : ℕ) → (list_any test (take n bytes) || list_any test (drop n bytes)) ≡ list_any test bytes
any_cut test bytes n = sym (list_any-append test (take n bytes) (drop n bytes)) ∙ ap (list_any test) (take-append-drop n bytes)

-- what the distances of a vector's bytes say of them
pub record IsLess (above bytes : List ℕ) : Type 0 where
  pub returns : map (λ byte. byte == 0) above ≡ map (λ byte. byte == 13) bytes
  pub feeds : flags (λ byte. byte == 253) above ≡ flags (λ byte. byte == 10) bytes

length-less : (above bytes : List ℕ) → IsLess above bytes → length above ≡ length bytes
length-less above bytes is = sym (length-map above (λ byte. byte == 0)) ∙ ap length is.returns ∙ length-map bytes (λ byte. byte == 13)

zero_in_less : (above bytes : List ℕ) → IsLess above bytes → list_any (λ byte. byte == 0) above ≡ list_any (λ byte. byte == 13) bytes
zero_in_less above bytes is = sym (any_map (λ byte. byte == 0) above) ∙ ap (list_any (λ b. b)) is.returns ∙ any_map (λ byte. byte == 13) bytes

-- how counters and the least distances stand after a pair of vectors
pub record AddsPair (counts least first second ones others : List ℕ) (i : ℕ) (pair : List ℕ) : Type 0 where
  pub small : Each1 (λ n. n ≤ 2 * (i + 1)) (zip2 wrapped_sum (zip2 wrapped_sum counts ones) others)
  pub total : sum (zip2 wrapped_sum (zip2 wrapped_sum counts ones) others) ≡ sum counts + count_by (λ byte. byte == 10) pair
  pub found : list_any (λ byte. byte == 0) (least_of (least_of least first) second) ≡ (list_any (λ byte. byte == 0) least || list_any (λ byte. byte == 13) pair)

module _ (pair : List ℕ) (long : length pair ≡ 64) where
  low_half : chunk 0 32 (take 32 pair) ≡ take 32 pair
  low_half = take_all 32 (take 32 pair) (omega (arith, length-take-le 32 pair (omega (arith, long))))

  high_half : chunk 0 32 (take 32 (drop 32 pair)) ≡ drop 32 pair
  high_half =
      let rest : length (drop 32 pair) ≡ 32 = omega (arith, length-drop 32 pair, long) in
      ap (chunk 0 32) (take_all 32 (drop 32 pair) (omega (arith, rest))) ∙ take_all 32 (drop 32 pair) (omega (arith, rest))

  module _ (counts least first second ones others : List ℕ) (i : ℕ) (room : i < 127)
      (counters : length counts ≡ 32) (lanes : length least ≡ 32) (most : Each1 (λ n. n ≤ 2 * i) counts)
      (first_is : IsLess first (chunk 0 32 (take 32 pair))) (second_is : IsLess second (chunk 0 32 (take 32 (drop 32 pair))))
      (ones_are : ones ≡ flags (λ byte. byte == 253) first) (others_are : others ≡ flags (λ byte. byte == 253) second) where
    first_long : length first ≡ 32
    first_long = length-less first _ first_is ∙ ap length low_half ∙ length-take-le 32 pair (omega (arith, long))

    second_long : length second ≡ 32
    second_long = length-less second _ second_is ∙ ap length high_half ∙ omega (arith, length-drop 32 pair, long)

    low : AddsLanes (λ byte. byte == 10) counts ones (2 * i) (take 32 pair)
    low =
        adds_lanes (λ byte. byte == 10) counts ones (2 * i) (take 32 pair) (omega arith) counters (length-take-le 32 pair (omega (arith, long))) most
        (ones_are ∙ first_is.feeds ∙ ap (flags (λ byte. byte == 10)) low_half)

    once : length (zip2 wrapped_sum counts ones) ≡ 32
    once =
        let flagged = ap length ones_are ∙ length-map first (λ byte. cond (byte == 253) 1 0) ∙ first_long in
        length-zip2 wrapped_sum counts ones (counters ∙ sym flagged) ∙ counters

    high : AddsLanes (λ byte. byte == 10) (zip2 wrapped_sum counts ones) others (2 * i + 1) (drop 32 pair)
    high =
        adds_lanes (λ byte. byte == 10) (zip2 wrapped_sum counts ones) others (2 * i + 1) (drop 32 pair) (omega arith) once (omega (arith, length-drop 32 pair, long)) low.small
        (others_are ∙ second_is.feeds ∙ ap (flags (λ byte. byte == 10)) high_half)

    pub adds_pair : AddsPair counts least first second ones others i pair
    adds_pair =
        let has_zero : List ℕ → Bool = list_any (λ byte. byte == 0) in
        let has_return : List ℕ → Bool = list_any (λ byte. byte == 13) in
        let next : 2 * i + 1 + 1 ≡ 2 * (i + 1) = omega arith in
        let with_first = zero_in_least least first (lanes ∙ sym first_long) in
        let with_second = zero_in_least (least_of least first) second (length-least_of least first (lanes ∙ sym first_long) ∙ lanes ∙ sym second_long) in
        record {
          small = subst (λ k. Each1 (λ n. n ≤ k) (zip2 wrapped_sum (zip2 wrapped_sum counts ones) others)) next high.small;
          total = omega (arith, high.total, low.total, sum_by-take-drop (λ b. cond (b == 10) 1 0) pair 32);
          found =
              with_second
              ∙ (λ i. with_first i || (zero_in_less second _ second_is ∙ ap has_return high_half) i)
              ∙ (λ i. (has_zero least || (zero_in_less first _ first_is ∙ ap has_return low_half) i) || has_return (drop 32 pair))
              ∙ or_assoc (has_zero least) (has_return (take 32 pair)) (has_return (drop 32 pair))
              ∙ ap (λ b. has_zero least || b) (any_cut (λ byte. byte == 13) pair 32);
        }

-- ---- the bytes of a slice, as pairs of vectors and a rest
any_in_chunks : (test : ℕ → Bool) (size k : ℕ) (bytes : List ℕ) → list_any (λ chunk. list_any test chunk) (first_chunks size k bytes) ≡ list_any test (take (k * size) bytes)
any_in_chunks test size zero bytes = ap (λ n. list_any test (take n bytes)) (sym none)
  where
    none : 0 * size ≡ 0
    none = omega arith
any_in_chunks test size (suc k) bytes =
    let more : suc k * size ≡ size + k * size = omega arith in
    ap (λ b. list_any test (take size bytes) || b) (any_in_chunks test size k (drop size bytes))
    ∙ sym (list_any-append test (take size bytes) (take (k * size) (drop size bytes)))
    ∙ ap (list_any test) (sym (take-add size (k * size) bytes) ∙ ap (λ n. take n bytes) (sym more))

module _ (test : ℕ → Bool) (bytes : List ℕ) (pairs : List (List ℕ)) (rest : List ℕ)
    (pairs_are : pairs ≡ first_chunks 64 (length bytes / 64) bytes) (rest_is : rest ≡ drop (length bytes / 64 * 64) bytes) where
  pub pairs_and_rest : sum_by (λ pair. count_by test pair) pairs + count_by test rest ≡ count_by test bytes
  pairs_and_rest =
      (λ i. sum_by (λ pair. count_by test pair) (pairs_are i) + count_by test (rest_is i))
      ∙ ap (λ n. n + count_by test (drop (length bytes / 64 * 64) bytes)) (count_in_chunks test 64 (length bytes / 64) bytes)
      ∙ sum_by-take-drop (λ b. cond (test b) 1 0) bytes (length bytes / 64 * 64)

  pub whole_count : (in_pairs in_rest : ℕ) → in_pairs ≡ sum_by (λ pair. count_by test pair) pairs → in_rest ≡ count_by test rest → in_pairs + in_rest ≡ count_by test bytes
  whole_count in_pairs in_rest counted last = (λ i. counted i + last i) ∙ pairs_and_rest

  pub any_in_pairs : (list_any (λ pair. list_any test pair) pairs || list_any test rest) ≡ list_any test bytes
  any_in_pairs =
      (λ i. list_any (λ pair. list_any test pair) (pairs_are i) || list_any test (rest_is i))
      ∙ ap (λ b. b || list_any test (drop (length bytes / 64 * 64) bytes)) (any_in_chunks test 64 (length bytes / 64) bytes)
      ∙ any_cut test bytes (length bytes / 64 * 64)
