-- The words of flags: which bytes equal those of another word, and which begin a character.
use Rattle.std.proofs.Common.{◌≡◌, ℕ, zero, suc, ◌+◌, ◌-◌, ◌*◌, ◌/◌, ◌^◌, ◌<◌, Bool, true, false, cond, ◌&&◌, ◌==◌, eqb, T, ◌⊎◌, inl, inr, replicate, refl, sym, ap, ◌∙◌, subst, arith, bit_and, bit_or, bit_xor}
use Rattle.std.specs.Simd.Lanes.{zip2}
use Rattle.std.proofs.lemmas.Bool.{false≢true, cases_order}
use Rattle.std.proofs.lemmas.Nat.{and_le_r, or_lt, xor_lt}
use Rattle.std.proofs.lemmas.Simd.{zip2_splat}
use Rattle.std.proofs.Math.Nat.{mul-div_cancel_left}
use lib.Dec.{eqb→eq, eqb_refl}
use lib.Bits.{xor_assoc, xor_self, xor_zero_r}
use Rattle.bytecount.specs.Counts.{begins_char}
use Rattle.bytecount.specs.Words.{bytes_of, flags}
use Rattle.bytecount.proofs.WordLemmas.{digits, AreBytes, byte_in, listed_is, bytes_of_digits, digits_of_bytes, length-bytes_of, AreBytes-of, and_bytes, or_bytes, xor_bytes}

-- ---- a fact of each byte, by trying all 256
abbrev pub each_below : ℕ → (ℕ → Bool) → Bool
each_below zero test = true
each_below (suc n) test = test n && each_below n test

tried : (n : ℕ) (test : ℕ → Bool) → each_below n test ≡ true → (b : ℕ) → b < n → test b ≡ true
tried zero test all b lt = absurd (omega arith)
tried (suc n) test all b lt = by (test n) refl all (tried n test)
  where
    by : (here : Bool) → test n ≡ here → (here && each_below n test) ≡ true → (each_below n test ≡ true → (c : ℕ) → c < n → test c ≡ true) → test b ≡ true
    by true is both below = last (cases_order b n)
      where
        last : (b ≡ n) ⊎ ((b < n) ⊎ (n < b)) → test b ≡ true
        last (inl same) = ap test same ∙ is
        last (inr (inl less)) = below both b less
        last (inr (inr more)) = absurd (omega arith)
    by false is both below = absurd (false≢true both)

pub at_each_byte : (f g : ℕ → ℕ) → each_below 256 (λ b. eqb (f b) (g b)) ≡ true → (b : ℕ) → b < 256 → f b ≡ g b
at_each_byte f g all b small = eqb→eq _ _ (subst T (sym (tried 256 (λ c. eqb (f c) (g c)) all b small)) tt)

-- ---- what is done to one byte
abbrev carried : ℕ → ℕ
carried y = bit_and y 127 + 127

abbrev zero_at_top : ℕ → ℕ
zero_at_top y = bit_and (255 - bit_or (carried y) y) 128

zero_at_top_is : (y : ℕ) → y < 256 → zero_at_top y ≡ 128 * cond (eqb y 0) 1 0
zero_at_top_is y small = at_each_byte zero_at_top (λ y. 128 * cond (eqb y 0) 1 0) refl y small

same_tests : (s t : Bool) → (T s → T t) → (T t → T s) → s ≡ t
same_tests true true f g = refl
same_tests true false f g = absurd (f tt)
same_tests false true f g = absurd (g tt)
same_tests false false f g = refl

no_difference : (a b : ℕ) → eqb (bit_xor a b) 0 ≡ eqb a b
no_difference a b = same_tests _ _
    (λ h. subst (λ z. T (eqb a z)) (sym (xor_zero_r a) ∙ ap (bit_xor a) (sym (xor_self b)) ∙ sym (xor_assoc a b b) ∙ ap (λ z. bit_xor z b) (eqb→eq _ 0 h)) (eqb_refl a))
    (λ h. subst (λ z. T (eqb z 0)) (sym (ap (bit_xor a) (sym (eqb→eq a b h)) ∙ xor_self a)) (eqb_refl 0))

-- ---- of a word
complement : (f : ℕ → ℕ) → AreBytes f → (n k : ℕ) → digits (λ j. 255 - f j) k n + digits f k n ≡ digits (λ _. 255) k n
complement f small zero k = refl
complement f small (suc n) k = omega (arith, small k, complement f small n (suc k))

left_over : (a b c : ℕ) → a + b ≡ c → c - b ≡ a
left_over a b c sum = omega arith

inverted : (f : ℕ → ℕ) → AreBytes f → 2 ^ 64 - 1 - digits f 0 8 ≡ digits (λ k. 255 - f k) 0 8
inverted f small = left_over _ _ _ (complement f small 8 0)

moved_down : (f g : ℕ → ℕ) (m : ℕ) → ((k : ℕ) → f k ≡ m * g k) → digits f 0 8 ≡ m * digits g 0 8
moved_down f g m each = (λ i. digits (λ k. each k i) 0 8) ∙ omega arith

times_over : (m n : ℕ) → 0 < m → m * n / m ≡ n
times_over m n positive = mul-div_cancel_left n positive

flag_small : (b : Bool) → cond b 1 0 < 256
flag_small true = omega arith
flag_small false = omega arith

-- 1 at each byte of a word that is 0
abbrev pub zero_bytes : ℕ → ℕ
zero_bytes x = bit_and (2 ^ 64 - 1 - bit_or (bit_and x 0x7f7f_7f7f_7f7f_7f7f + 0x7f7f_7f7f_7f7f_7f7f) x) 0x8080_8080_8080_8080 / 2 ^ 7

pub carried_fits : (x : ℕ) → bit_and x 0x7f7f_7f7f_7f7f_7f7f + 0x7f7f_7f7f_7f7f_7f7f < 2 ^ 64
carried_fits x = omega (arith, and_le_r x 0x7f7f_7f7f_7f7f_7f7f)

zero_bytes_is : (x : ℕ) (y : ℕ → ℕ) → AreBytes y → x ≡ digits y 0 8 → zero_bytes x ≡ digits (λ k. cond (eqb (y k) 0) 1 0) 0 8
zero_bytes_is x y small is =
    let low = λ (k : ℕ). bit_and (y k) 127 in
    let sum = λ (k : ℕ). low k + 127 in
    let sum_small : AreBytes sum = λ k. omega (arith, and_le_r (y k) 127) in
    let either = λ (k : ℕ). bit_or (sum k) (y k) in
    let either_small : AreBytes either = λ k. or_lt 8 (sum k) (y k) (sum_small k) (small k) in
    let neither = λ (k : ℕ). 255 - either k in
    let neither_small : AreBytes neither = λ k. omega arith in
    let flag : ℕ → ℕ = λ k. cond (eqb (y k) 0) 1 0 in
    let masked : bit_and x 0x7f7f_7f7f_7f7f_7f7f ≡ digits low 0 8 = ap (λ w. bit_and w 0x7f7f_7f7f_7f7f_7f7f) is ∙ and_bytes y (λ _. 127) small (λ _. omega arith) in
    let added : digits low 0 8 + 0x7f7f_7f7f_7f7f_7f7f ≡ digits sum 0 8 = omega arith in
    let joined = (λ i. bit_or ((ap (λ w. w + 0x7f7f_7f7f_7f7f_7f7f) masked ∙ added) i) (is i)) ∙ or_bytes sum y sum_small small in
    let turned = ap (λ w. 2 ^ 64 - 1 - w) joined ∙ inverted either either_small in
    let kept = ap (λ w. bit_and w 0x8080_8080_8080_8080) turned ∙ and_bytes neither (λ _. 128) neither_small (λ _. omega arith)
    ∙ moved_down (λ k. zero_at_top (y k)) flag 128 (λ k. zero_at_top_is (y k) (small k)) in
    ap (λ w. w / 2 ^ 7) kept ∙ times_over 128 (digits flag 0 8) (omega arith)

-- 1 at each byte at which two words are equal
pub equal_bytes : (a b : ℕ) → a < 2 ^ 64 → b < 2 ^ 64 → bytes_of (zero_bytes (bit_xor a b)) ≡ zip2 (λ x y. cond (x == y) 1 0) (bytes_of a) (bytes_of b)
unfolding bytes_of
equal_bytes a b a_fits b_fits =
    let x = byte_in a in
    let y = byte_in b in
    let apart = λ (k : ℕ). bit_xor (x k) (y k) in
    let apart_small : AreBytes apart = λ k. xor_lt 8 (x k) (y k) (AreBytes-of a k) (AreBytes-of b k) in
    let word : bit_xor a b ≡ digits apart 0 8 = (λ i. bit_xor (digits_of_bytes a a_fits i) (digits_of_bytes b b_fits i)) ∙ xor_bytes x y (AreBytes-of a) (AreBytes-of b) in
    bytes_of_digits (λ k. cond (eqb (apart k) 0) 1 0) _ (λ k. flag_small (eqb (apart k) 0)) (zero_bytes_is (bit_xor a b) apart apart_small word)
    ∙ listed_is _ _ (λ k. ap (λ t. cond t 1 0) (no_difference (x k) (y k)))

pub against_splat : (a b n : ℕ) → bytes_of b ≡ replicate 8 n → zip2 (λ x y. cond (x == y) 1 0) (bytes_of a) (bytes_of b) ≡ flags (λ byte. byte == n) (bytes_of a)
against_splat a b n is = ap (zip2 (λ x y. cond (x == y) 1 0) (bytes_of a)) is ∙ zip2_splat (λ x y. cond (x == y) 1 0) (bytes_of a) 8 n (length-bytes_of a)

-- ---- 1 at each byte that begins a character
abbrev top_clear : ℕ → ℕ
top_clear y = bit_and (255 - y) 128 / 128

abbrev second_set : ℕ → ℕ
second_set y = bit_and y 64 / 64

abbrev pub leading_bytes : ℕ → ℕ
leading_bytes x = bit_or (bit_and (2 ^ 64 - 1 - x) 0x8080_8080_8080_8080 / 2 ^ 7) (bit_and x 0x4040_4040_4040_4040 / 2 ^ 6)

top_clear_is : (y : ℕ) → y < 256 → bit_and (255 - y) 128 ≡ 128 * top_clear y
top_clear_is y small = at_each_byte (λ y. bit_and (255 - y) 128) (λ y. 128 * top_clear y) refl y small

second_set_is : (y : ℕ) → y < 256 → bit_and y 64 ≡ 64 * second_set y
second_set_is y small = at_each_byte (λ y. bit_and y 64) (λ y. 64 * second_set y) refl y small

leading_is : (y : ℕ) → y < 256 → bit_or (top_clear y) (second_set y) ≡ cond (begins_char y) 1 0
leading_is y small = at_each_byte (λ y. bit_or (top_clear y) (second_set y)) (λ y. cond (begins_char y) 1 0) refl y small

leading_bytes_is : (x : ℕ) (y : ℕ → ℕ) → AreBytes y → x ≡ digits y 0 8 → leading_bytes x ≡ digits (λ k. cond (begins_char (y k)) 1 0) 0 8
leading_bytes_is x y small is =
    let top : ℕ → ℕ = λ k. top_clear (y k) in
    let second : ℕ → ℕ = λ k. second_set (y k) in
    let top_small : AreBytes top = λ k. omega (arith, top_clear_is (y k) (small k), and_le_r (255 - y k) 128) in
    let second_small : AreBytes second = λ k. omega (arith, second_set_is (y k) (small k), and_le_r (y k) 64) in
    let highs : bit_and (2 ^ 64 - 1 - x) 0x8080_8080_8080_8080 ≡ 128 * digits top 0 8 =
    ap (λ w. bit_and (2 ^ 64 - 1 - w) 0x8080_8080_8080_8080) is ∙ ap (λ w. bit_and w 0x8080_8080_8080_8080) (inverted y small)
    ∙ and_bytes (λ k. 255 - y k) (λ _. 128) (λ k. omega arith) (λ _. omega arith)
    ∙ moved_down (λ k. bit_and (255 - y k) 128) top 128 (λ k. top_clear_is (y k) (small k)) in
    let seconds : bit_and x 0x4040_4040_4040_4040 ≡ 64 * digits second 0 8 =
    ap (λ w. bit_and w 0x4040_4040_4040_4040) is
    ∙ and_bytes y (λ _. 64) small (λ _. omega arith)
    ∙ moved_down (λ k. bit_and (y k) 64) second 64 (λ k. second_set_is (y k) (small k)) in
    let high : bit_and (2 ^ 64 - 1 - x) 0x8080_8080_8080_8080 / 2 ^ 7 ≡ digits top 0 8 = ap (λ w. w / 2 ^ 7) highs ∙ times_over 128 (digits top 0 8) (omega arith) in
    let low : bit_and x 0x4040_4040_4040_4040 / 2 ^ 6 ≡ digits second 0 8 = ap (λ w. w / 2 ^ 6) seconds ∙ times_over 64 (digits second 0 8) (omega arith) in
    (λ i. bit_or (high i) (low i)) ∙ or_bytes top second top_small second_small
    ∙ (λ i. digits (λ k. leading_is (y k) (small k) i) 0 8)

pub leading_flags : (x : ℕ) → x < 2 ^ 64 → bytes_of (leading_bytes x) ≡ flags begins_char (bytes_of x)
unfolding bytes_of
leading_flags x fits =
    bytes_of_digits (λ k. cond (begins_char (byte_in x k)) 1 0) _ (λ k. flag_small (begins_char (byte_in x k)))
    (leading_bytes_is x (byte_in x) (AreBytes-of x) (digits_of_bytes x fits))
