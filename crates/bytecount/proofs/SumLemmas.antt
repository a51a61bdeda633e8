-- Counts as sums: of the small counters of a word, of the words of a block, and of the last bytes.
use Rattle.std.proofs.Common.{◌≡◌, ℕ, zero, suc, ◌+◌, ◌-◌, ◌*◌, ◌/◌, ◌%◌, ◌^◌, ◌<◌, ◌≤◌, Bool, true, false, cond, List, [], ◌∷◌, length, get_or, take, drop, sum, sum_by, count_by, refl, sym, ap, ◌∙◌, arith}
use Rattle.std.specs.Simd.{first_chunks}
use Rattle.std.proofs.lemmas.List.{drop-map, get_or-drop, drop-drop, length-drop, drop_all}
use Rattle.std.proofs.lemmas.List.Sums.{sum-map, sum_by-cons, sum_by-append, sum_by-take-drop, sum_by-take-le, count_by-le-length}
use Rattle.std.proofs.Math.Seq.{take-add}
use Rattle.bytecount.specs.Words.{bytes_of, flags}
use Rattle.bytecount.proofs.WordLemmas.{digits, AreBytes, listed, byte_in, listed_is, listed_at, bytes_of_digits, digits_of_bytes, digits-lt, bytes_are_listed, length-bytes_of, bytes_of_shifted}

-- ---- one word more
sum_of_sums : (f g : ℕ → ℕ) → sum (listed (λ k. f k + g k)) ≡ sum (listed f) + sum (listed g)
sum_of_sums f g = omega arith

flag_at : (test : ℕ → Bool) (bytes : List ℕ) (k : ℕ) → get_or (flags test bytes) k 0 ≤ 1
flag_at test [] k = omega arith
flag_at test (b ∷ bytes) zero = one (test b)
  where
    one : (t : Bool) → cond t 1 0 ≤ 1
    one true = omega arith
    one false = omega arith
flag_at test (b ∷ bytes) (suc k) = flag_at test bytes k

pub record Adds (test : ℕ → Bool) (counts more i : ℕ) (bytes : List ℕ) : Type 0 where
  pub fits : counts + more < 2 ^ 64
  pub small : (k : ℕ) → get_or (bytes_of (counts + more)) k 0 ≤ i + 1
  pub total : sum (bytes_of (counts + more)) ≡ sum (bytes_of counts) + count_by test bytes

-- the flags of a word are added to counters of which none is past i
pub adds : (test : ℕ → Bool) (counts more i : ℕ) (bytes : List ℕ) → counts < 2 ^ 64 → more < 2 ^ 64 → i < 255
    → ((k : ℕ) → get_or (bytes_of counts) k 0 ≤ i) → bytes_of more ≡ flags test bytes → Adds test counts more i bytes
adds test counts more i bytes counts_fit more_fit room most is =
    let f = byte_in counts in
    let g = byte_in more in
    let flag : (k : ℕ) → g k ≤ 1 = λ k. let at = ap (λ l. get_or l k 0) is in omega (arith, at, flag_at test bytes k) in
    let both : ℕ → ℕ = λ k. f k + g k in
    let step : (k : ℕ) → both k ≤ i + 1 = λ k. omega (arith, most k, flag k) in
    let both_small : AreBytes both = λ k. omega (arith, step k) in
    let written : digits f 0 8 + digits g 0 8 ≡ digits both 0 8 = omega arith in
    let word : counts + more ≡ digits both 0 8 = (λ j. digits_of_bytes counts counts_fit j + digits_of_bytes more more_fit j) ∙ written in
    let list = bytes_of_digits both (counts + more) both_small word in
    let bound = digits-lt both both_small in
    record {
      fits = omega (arith, word, bound);
      small = λ k. let at = ap (λ l. get_or l k 0) list in omega (arith, at, listed_at (i + 1) both step k);
      total =
          ap sum list ∙ sum_of_sums f g
          ∙ (λ j. sum (sym (bytes_are_listed counts) j) + sum (sym (bytes_are_listed more) j))
          ∙ ap (λ n. sum (bytes_of counts) + n) (ap sum is ∙ sum-map (λ b. cond (test b) 1 0) bytes);
    }

-- no counter has begun
pub none_yet : (k : ℕ) → get_or (bytes_of 0) k 0 ≤ 0
unfolding bytes_of
none_yet zero = omega arith
none_yet (suc zero) = omega arith
none_yet (suc (suc zero)) = omega arith
none_yet (suc (suc (suc zero))) = omega arith
none_yet (suc (suc (suc (suc zero)))) = omega arith
none_yet (suc (suc (suc (suc (suc zero))))) = omega arith
none_yet (suc (suc (suc (suc (suc (suc zero)))))) = omega arith
none_yet (suc (suc (suc (suc (suc (suc (suc zero))))))) = omega arith
none_yet (suc (suc (suc (suc (suc (suc (suc (suc k)))))))) = omega arith

pub sum_none : sum (bytes_of 0) ≡ 0
unfolding bytes_of
sum_none = refl

-- ---- the last bytes of a word
padded : (zs : List ℕ) → length zs ≤ 8 → sum (listed (λ k. get_or zs k 0)) ≡ sum zs
padded [] short = refl
padded (a ∷ []) short = omega arith
padded (a ∷ b ∷ []) short = omega arith
padded (a ∷ b ∷ c ∷ []) short = omega arith
padded (a ∷ b ∷ c ∷ d ∷ []) short = omega arith
padded (a ∷ b ∷ c ∷ d ∷ e ∷ []) short = omega arith
padded (a ∷ b ∷ c ∷ d ∷ e ∷ f ∷ []) short = omega arith
padded (a ∷ b ∷ c ∷ d ∷ e ∷ f ∷ g ∷ []) short = omega arith
padded (a ∷ b ∷ c ∷ d ∷ e ∷ f ∷ g ∷ h ∷ []) short = omega arith
padded (a ∷ b ∷ c ∷ d ∷ e ∷ f ∷ g ∷ h ∷ x ∷ zs) short = absurd (omega arith)

-- a word shifted down until its last `left` bytes are left
pub sum_shifted : (word left : ℕ) → word < 2 ^ 64 → left ≤ 8 → sum (bytes_of (word / 2 ^ (64 - 8 * left))) ≡ sum (drop (8 - left) (bytes_of word))
sum_shifted word left fits le =
    let j = 8 - left in
    let bits : 64 - 8 * left ≡ 8 * j = omega arith in
    let short : length (drop j (bytes_of word)) ≤ 8 = omega (arith, length-drop j (bytes_of word), length-bytes_of word) in
    ap (λ b. sum (bytes_of (word / 2 ^ b))) bits ∙ ap sum (bytes_of_shifted word j fits)
    ∙ ap sum (listed_is (λ k. byte_in word (j + k)) (λ k. get_or (drop j (bytes_of word)) k 0) (λ k. sym (get_or-drop j (bytes_of word) k 0)))
    ∙ padded (drop j (bytes_of word)) short

-- none of the eight is left
pub sum_past : (word left : ℕ) → left ≡ 0 → sum (drop (8 - left) (bytes_of word)) ≡ 0
sum_past word left e = let j : 8 - left ≡ 8 = omega arith in ap (λ n. sum (drop n (bytes_of word))) j ∙ ap sum (drop_all 8 (bytes_of word) (omega (arith, length-bytes_of word)))

-- the flags of the last bytes
pub last_flags : (test : ℕ → Bool) (word j : ℕ) (bytes : List ℕ) → bytes_of word ≡ flags test bytes → sum (drop j (bytes_of word)) ≡ count_by test (drop j bytes)
last_flags test word j bytes is =
    ap (λ l. sum (drop j l)) is ∙ ap sum (drop-map (λ b. cond (test b) 1 0) j bytes)
    ∙ sum-map (λ b. cond (test b) 1 0) (drop j bytes)

-- ---- the bytes of a slice, as words and a rest
pub count_in_chunks : (test : ℕ → Bool) (size k : ℕ) (bytes : List ℕ) → sum_by (λ word. count_by test word) (first_chunks size k bytes) ≡ count_by test (take (k * size) bytes)
count_in_chunks test size zero bytes = ap (λ n. count_by test (take n bytes)) (sym none)
  where
    none : 0 * size ≡ 0
    none = omega arith
count_in_chunks test size (suc k) bytes =
    let more : suc k * size ≡ size + k * size = omega arith in
    sum_by-cons (λ word. count_by test word) (take size bytes) (first_chunks size k (drop size bytes))
    ∙ ap (λ n. count_by test (take size bytes) + n) (count_in_chunks test size k (drop size bytes))
    ∙ sym (sum_by-append (λ b. cond (test b) 1 0) (take size bytes) (take (k * size) (drop size bytes)))
    ∙ ap (count_by test) (sym (take-add size (k * size) bytes) ∙ ap (λ n. take n bytes) (sym more))

-- the whole count, where `left` bytes follow the last whole word, and the last eight bytes overlap it
pub words_and_rest : (test : ℕ → Bool) (bytes : List ℕ) → 8 ≤ length bytes
    → sum_by (λ word. count_by test word) (first_chunks 8 (length bytes / 8) bytes) + count_by test (drop (8 - length bytes % 8) (drop (length bytes - 8) bytes)) ≡ count_by test bytes
words_and_rest test bytes long =
    let n = length bytes in
    let place : (n - 8) + (8 - n % 8) ≡ n / 8 * 8 = omega arith in
    ap (λ m. m + count_by test (drop (8 - n % 8) (drop (n - 8) bytes))) (count_in_chunks test 8 (n / 8) bytes)
    ∙ ap (λ l. count_by test (take (n / 8 * 8) bytes) + count_by test l) (drop-drop (8 - n % 8) (n - 8) bytes ∙ ap (λ m. drop m bytes) place)
    ∙ sum_by-take-drop (λ b. cond (test b) 1 0) bytes (n / 8 * 8)

-- no more bytes of the words of a slice are counted than the slice has
pub count_in_chunks-le : (test : ℕ → Bool) (bytes : List ℕ) (words : List (List ℕ)) → words ≡ first_chunks 8 (length bytes / 8) bytes → sum_by (λ word. count_by test word) words ≤ length bytes
count_in_chunks-le test bytes words is =
    let k = length bytes / 8 in
    omega (arith, ap (sum_by (λ word. count_by test word)) is, count_in_chunks test 8 k bytes, sum_by-take-le (λ b. cond (test b) 1 0) bytes (k * 8), count_by-le-length test bytes)

-- the count of a slice, from that of its words and that of the last bytes of the last eight
pub whole_count : (test : ℕ → Bool) (bytes : List ℕ) (words : List (List ℕ)) (last : List ℕ) (in_words flag_word left in_rest : ℕ) → 8 ≤ length bytes
    → words ≡ first_chunks 8 (length bytes / 8) bytes → in_words ≡ sum_by (λ word. count_by test word) words
    → last ≡ drop (length bytes - 8) bytes → bytes_of flag_word ≡ flags test last
    → left ≡ length bytes % 8 → in_rest ≡ sum (drop (8 - left) (bytes_of flag_word))
    → in_words + in_rest ≡ count_by test bytes
whole_count test bytes words last in_words flag_word left in_rest long words_are counted last_is flagged left_is rest_is =
    let in_chunks : in_words ≡ sum_by (λ word. count_by test word) (first_chunks 8 (length bytes / 8) bytes) = counted ∙ ap (sum_by (λ word. count_by test word)) words_are in
    let in_last : in_rest ≡ count_by test (drop (8 - length bytes % 8) (drop (length bytes - 8) bytes)) =
    rest_is ∙ last_flags test flag_word (8 - left) last flagged ∙ (λ i. count_by test (drop (8 - left_is i) (last_is i))) in
    (λ i. in_chunks i + in_last i) ∙ words_and_rest test bytes long
