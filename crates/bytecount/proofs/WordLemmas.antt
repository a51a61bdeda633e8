-- A word as the eight digits of a number in base 256, each of them a byte.
use Rattle.std.proofs.Common.{◌≡◌, ℕ, zero, suc, ◌+◌, ◌*◌, ◌/◌, ◌^◌, ◌<◌, ◌≤◌, List, [], ◌∷◌, length, get_or, refl, sym, ap, ◌∙◌, arith, bit_and, bit_or, bit_xor, w64}
use Rattle.std.specs.Int.{from_le_bytes}
use Rattle.std.proofs.lemmas.Nat.{le_bytes_8, from_le_bytes-to_le_bytes_8, and_block, or_block, xor_block, shr-shr}
use Rattle.bytecount.specs.Words.{bytes_of}

-- n digits, from the k-th on, the lowest first
abbrev pub digits : (ℕ → ℕ) → ℕ → ℕ → ℕ
digits f k zero = 0
digits f k (suc n) = f k + 256 * digits f (suc k) n

-- each digit is a byte
abbrev pub AreBytes : (ℕ → ℕ) → Type 0
AreBytes f = (k : ℕ) → f k < 256

-- the first eight, as a list
abbrev pub listed : (ℕ → ℕ) → List ℕ
listed f = f 0 ∷ f 1 ∷ f 2 ∷ f 3 ∷ f 4 ∷ f 5 ∷ f 6 ∷ f 7 ∷ []

-- the bytes of a word by their place, and 0 past its end
abbrev pub byte_in : ℕ → ℕ → ℕ
byte_in word k = get_or (bytes_of word) k 0

pub listed_is : (f g : ℕ → ℕ) → ((k : ℕ) → f k ≡ g k) → listed f ≡ listed g
listed_is f g same = λ i. listed (λ k. same k i)

pub listed_at : (m : ℕ) (f : ℕ → ℕ) → ((k : ℕ) → f k ≤ m) → (k : ℕ) → get_or (listed f) k 0 ≤ m
listed_at m f most zero = most 0
listed_at m f most (suc zero) = most 1
listed_at m f most (suc (suc zero)) = most 2
listed_at m f most (suc (suc (suc zero))) = most 3
listed_at m f most (suc (suc (suc (suc zero)))) = most 4
listed_at m f most (suc (suc (suc (suc (suc zero))))) = most 5
listed_at m f most (suc (suc (suc (suc (suc (suc zero)))))) = most 6
listed_at m f most (suc (suc (suc (suc (suc (suc (suc zero))))))) = most 7
listed_at m f most (suc (suc (suc (suc (suc (suc (suc (suc k)))))))) = omega arith

below_256 : (f : ℕ → ℕ) → AreBytes f → (k : ℕ) → get_or (listed f) k 0 < 256
below_256 f small k = let most = listed_at 255 f (λ j. omega (arith, small j)) k in omega arith

written : (a b c d e f g h : ℕ) → a + 256 * (b + 256 * (c + 256 * (d + 256 * (e + 256 * (f + 256 * (g + 256 * (h + 256 * 0)))))))
    ≡ from_le_bytes w64 (a ∷ b ∷ c ∷ d ∷ e ∷ f ∷ g ∷ h ∷ [])
written a b c d e f g h = omega arith

-- the bytes of the number that eight digits write are those digits
pub bytes_of_digits : (f : ℕ → ℕ) (word : ℕ) → AreBytes f → word ≡ digits f 0 8 → bytes_of word ≡ listed f
unfolding bytes_of
bytes_of_digits f word small is = le_bytes_8 (listed f) word refl (below_256 f small) (is ∙ written (f 0) (f 1) (f 2) (f 3) (f 4) (f 5) (f 6) (f 7))

-- and its own bytes write each word
pub digits_of_bytes : (word : ℕ) → word < 2 ^ 64 → word ≡ digits (byte_in word) 0 8
unfolding bytes_of
digits_of_bytes word fits = sym (written _ _ _ _ _ _ _ _ ∙ from_le_bytes-to_le_bytes_8 word fits)

pub bytes_are_listed : (word : ℕ) → bytes_of word ≡ listed (byte_in word)
unfolding bytes_of
bytes_are_listed word = refl

pub length-bytes_of : (word : ℕ) → length (bytes_of word) ≡ 8
unfolding bytes_of
length-bytes_of word = refl

pub AreBytes-of : (word : ℕ) → AreBytes (byte_in word)
unfolding bytes_of
AreBytes-of word zero = omega arith
AreBytes-of word (suc zero) = omega arith
AreBytes-of word (suc (suc zero)) = omega arith
AreBytes-of word (suc (suc (suc zero))) = omega arith
AreBytes-of word (suc (suc (suc (suc zero)))) = omega arith
AreBytes-of word (suc (suc (suc (suc (suc zero))))) = omega arith
AreBytes-of word (suc (suc (suc (suc (suc (suc zero)))))) = omega arith
AreBytes-of word (suc (suc (suc (suc (suc (suc (suc zero))))))) = omega arith
AreBytes-of word (suc (suc (suc (suc (suc (suc (suc (suc k)))))))) = omega arith

pub digits-lt : (f : ℕ → ℕ) → AreBytes f → digits f 0 8 < 2 ^ 64
digits-lt f small = omega (arith, small 0, small 1, small 2, small 3, small 4, small 5, small 6, small 7)

-- ---- an operation on the bits of two words goes byte by byte
module _ (op : ℕ → ℕ → ℕ) (zeros : op 0 0 ≡ 0) (block : (k a b r s : ℕ) → r < 2 ^ k → s < 2 ^ k → op (a * 2 ^ k + r) (b * 2 ^ k + s) ≡ op a b * 2 ^ k + op r s) where
  by_byte : (f g : ℕ → ℕ) → AreBytes f → AreBytes g → (n k : ℕ) → op (digits f k n) (digits g k n) ≡ digits (λ j. op (f j) (g j)) k n
  by_byte f g f_small g_small zero k = zeros
  by_byte f g f_small g_small (suc n) k =
      let left : f k + 256 * digits f (suc k) n ≡ digits f (suc k) n * 256 + f k = omega arith in
      let right : g k + 256 * digits g (suc k) n ≡ digits g (suc k) n * 256 + g k = omega arith in
      (λ i. op (left i) (right i)) ∙ block 8 _ _ _ _ (f_small k) (g_small k) ∙ omega (arith, by_byte f g f_small g_small n (suc k))

pub and_bytes : (f g : ℕ → ℕ) → AreBytes f → AreBytes g → bit_and (digits f 0 8) (digits g 0 8) ≡ digits (λ k. bit_and (f k) (g k)) 0 8
and_bytes f g f_small g_small = by_byte bit_and refl and_block f g f_small g_small 8 0

pub or_bytes : (f g : ℕ → ℕ) → AreBytes f → AreBytes g → bit_or (digits f 0 8) (digits g 0 8) ≡ digits (λ k. bit_or (f k) (g k)) 0 8
or_bytes f g f_small g_small = by_byte bit_or refl or_block f g f_small g_small 8 0

pub xor_bytes : (f g : ℕ → ℕ) → AreBytes f → AreBytes g → bit_xor (digits f 0 8) (digits g 0 8) ≡ digits (λ k. bit_xor (f k) (g k)) 0 8
xor_bytes f g f_small g_small = by_byte bit_xor refl xor_block f g f_small g_small 8 0

-- ---- the digits from the j-th on are what a shift by 8 * j bits leaves
shifted : (f : ℕ → ℕ) → AreBytes f → (j n k total : ℕ) → total ≡ j + n → digits f k total / 2 ^ (8 * j) ≡ digits f (k + j) n
shifted f small zero n k total e =
    let one : 2 ^ (8 * 0) ≡ 1 = refl in
    let all : total ≡ n = omega arith in
    let here : k ≡ k + 0 = omega arith in
    ap (λ m. digits f k total / m) one ∙ omega arith ∙ (λ i. digits f (here i) (all i))
shifted f small (suc j) n k zero e = absurd (omega arith)
shifted f small (suc j) n k (suc total) e =
    let rest = digits f (suc k) total in
    let whole = f k + 256 * rest in
    let here : f k < 256 = small k in
    let first : whole / 2 ^ 8 ≡ rest = omega arith in
    let bits : 8 * suc j ≡ 8 + 8 * j = omega arith in
    let next : suc k + j ≡ k + suc j = omega arith in
    ap (λ m. whole / 2 ^ m) bits ∙ sym (shr-shr whole 8 (8 * j)) ∙ ap (λ m. m / 2 ^ (8 * j)) first
    ∙ shifted f small j n (suc k) total (omega arith) ∙ ap (λ m. digits f m n) next

turned : (f : ℕ → ℕ) (j n k : ℕ) → digits f (j + k) n ≡ digits (λ i. f (j + i)) k n
turned f j zero k = refl
turned f j (suc n) k =
    let next : suc (j + k) ≡ j + suc k = omega arith in
    ap (λ m. f (j + k) + 256 * digits f m n) next ∙ ap (λ m. f (j + k) + 256 * m) (turned f j n (suc k))

zeros_above : (f : ℕ → ℕ) → ((k : ℕ) → f (8 + k) ≡ 0) → (n k : ℕ) → digits f (8 + k) n ≡ 0
zeros_above f none zero k = refl
zeros_above f none (suc n) k =
    let next : suc (8 + k) ≡ 8 + suc k = omega arith in
    omega (arith, none k, ap (λ m. digits f m n) next ∙ zeros_above f none n (suc k))

-- more digits, all 0
longer : (f : ℕ → ℕ) → ((k : ℕ) → f (8 + k) ≡ 0) → (n k j : ℕ) → k + j ≡ 8 → digits f k (j + n) ≡ digits f k j
longer f none n k zero e =
    let here : k ≡ 8 + 0 = omega arith in
    let all : 0 + n ≡ n = omega arith in
    (λ i. digits f (here i) (all i)) ∙ zeros_above f none n 0
longer f none n k (suc j) e =
    let more : suc j + n ≡ suc (j + n) = omega arith in
    ap (digits f k) more ∙ ap (λ m. f k + 256 * m) (longer f none n (suc k) j (omega arith))

none_past_a_word : (word k : ℕ) → byte_in word (8 + k) ≡ 0
unfolding bytes_of
none_past_a_word word k =
    let past : 8 + k ≡ suc (suc (suc (suc (suc (suc (suc (suc k))))))) = omega arith in
    ap (λ m. get_or (bytes_of word) m 0) past

-- the bytes of a word shifted down by j bytes
pub bytes_of_shifted : (word j : ℕ) → word < 2 ^ 64 → bytes_of (word / 2 ^ (8 * j)) ≡ listed (λ k. byte_in word (j + k))
bytes_of_shifted word j fits =
    let f = byte_in word in
    let turn : 8 + j ≡ j + 8 = omega arith in
    let here : 0 + j ≡ j + 0 = omega arith in
    let is : word / 2 ^ (8 * j) ≡ digits (λ k. f (j + k)) 0 8 =
    ap (λ n. n / 2 ^ (8 * j)) (digits_of_bytes word fits ∙ sym (longer f (none_past_a_word word) j 0 8 refl))
    ∙ shifted f (AreBytes-of word) j 8 0 (8 + j) turn ∙ ap (λ m. digits f m 8) here ∙ turned f j 8 0 in
    bytes_of_digits (λ k. f (j + k)) (word / 2 ^ (8 * j)) (λ k. AreBytes-of word (j + k)) is
