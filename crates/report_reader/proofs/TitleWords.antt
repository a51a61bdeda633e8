-- The words of a part, joined with their gaps, are the part; none but the first is empty, and none holds a space.
use Rattle.std.proofs.Common.{◌≡◌, ℕ, ◌+◌, ◌<◌, ◌≤◌, ◌==◌, Bool, true, false, not, ◌&&◌, List, [], ◌∷◌, ◌++◌, length, slice_index, get_or, if◌then◌else◌, refl, sym, ap, subst, ◌∙◌, arith, zero, suc}
use Rattle.std.specs.List.{flat_map, list_all}
use Rattle.std.proofs.lemmas.List.{append_assoc, append-nil, nil_from_length, length-append, get_or_at, take_at, drop_at}
use Rattle.std.specs.Str.{IsUtf8}
use Rattle.std.proofs.lemmas.Str.{IsUtf8-nil, IsUtf8-take, IsUtf8-drop, IsUtf8-past_char, IsCharBoundary-before_ascii}
use Rattle.std.proofs.lemmas.Bool.Decides.{nat_tests}
use Rattle.textwrap.specs.Filled.{spaces}
use Rattle.textwrap.specs.Words.{Word, is_letter_or_digit, is_inner_hyphen, with_space, with_byte, words_behind}
pub use Rattle.report_reader.proofs.BytesLemmas.{has_no, both, both_first, both_last, has_no-append}

pub has_no_first : (c : ℕ) (xs ys : List ℕ) → has_no c (xs ++ ys) ≡ true → has_no c xs ≡ true
has_no_first c [] ys none = refl
has_no_first c (x ∷ xs) ys none = both _ _ (both_first _ _ none) (has_no_first c xs ys (both_last _ _ none))

pub has_no_last : (c : ℕ) (xs ys : List ℕ) → has_no c (xs ++ ys) ≡ true → has_no c ys ≡ true
has_no_last c [] ys none = none
has_no_last c (x ∷ xs) ys none = has_no_last c xs ys (both_last _ _ none)

abbrev pub word_whole : Word → List ℕ
word_whole w = w.text ++ spaces w.gap

-- a word that holds no space
abbrev pub is_word : Word → Bool
is_word w = has_no 0x20 w.text

-- and is not empty
abbrev pub is_full : Word → Bool
is_full w = is_word w && not (length w.text == 0)

-- words of which none but the first is empty
abbrev pub are_words : List Word → Bool
are_words [] = true
are_words (w ∷ more) = is_word w && list_all is_full more

-- a space before words
space_whole_by : (w : Word) (more : List Word) (empty : Bool) → (length w.text == 0) ≡ empty
    → flat_map word_whole (if empty then record { text = []; gap = w.gap + 1 } ∷ more else record { text = []; gap = 1 } ∷ w ∷ more) ≡ 0x20 ∷ flat_map word_whole (w ∷ more)
space_whole_by w more true is =
    let e : w.gap + 1 ≡ suc w.gap = omega arith in
    let none : w.text ≡ [] = nil_from_length w.text (grind (arith, nat_tests)) in
    rw e (ap (λ t. 0x20 ∷ ((t ++ spaces w.gap) ++ flat_map word_whole more)) (sym none))
space_whole_by w more false is = refl

space_whole : (ws : List Word) → flat_map word_whole (with_space ws) ≡ 0x20 ∷ flat_map word_whole ws
space_whole [] = refl
space_whole (w ∷ more) = space_whole_by w more (length w.text == 0) refl

space_words_by : (w : Word) (more : List Word) (empty : Bool) → (length w.text == 0) ≡ empty → are_words (w ∷ more) ≡ true
    → are_words (if empty then record { text = []; gap = w.gap + 1 } ∷ more else record { text = []; gap = 1 } ∷ w ∷ more) ≡ true
space_words_by w more true is are = both_last (is_word w) (list_all is_full more) are
space_words_by w more false is are =
    both (is_full w) (list_all is_full more) (both (is_word w) (not (length w.text == 0)) (both_first (is_word w) (list_all is_full more) are) (rw is refl)) (both_last (is_word w) (list_all is_full more) are)

space_words : (ws : List Word) → are_words ws ≡ true → are_words (with_space ws) ≡ true
space_words [] are = refl
space_words (w ∷ more) are = space_words_by w more (length w.text == 0) refl are

-- another byte before words
byte_whole : (b : ℕ) (ws : List Word) → flat_map word_whole (with_byte b ws) ≡ b ∷ flat_map word_whole ws
byte_whole b [] = refl
byte_whole b (w ∷ more) = refl

byte_words : (b : ℕ) (ws : List Word) → (b == 0x20) ≡ false → are_words ws ≡ true → list_all is_full (with_byte b ws) ≡ true
byte_words b [] other are = rw other refl
byte_words b (w ∷ more) other are =
    let some : (length (b ∷ w.text) == 0) ≡ false = grind (arith, nat_tests) in
    let clean : is_word w ≡ true = both_first (is_word w) (list_all is_full more) are in
    rw (other, some) (both (is_word w && true) (list_all is_full more) (both (is_word w) true clean refl) (both_last (is_word w) (list_all is_full more) are))

full_words : (ws : List Word) → list_all is_full ws ≡ true → are_words ws ≡ true
full_words [] are = refl
full_words (w ∷ more) are = both (is_word w) (list_all is_full more) (both_first (is_word w) (not (length w.text == 0)) (both_first (is_full w) (list_all is_full more) are)) (both_last (is_full w) (list_all is_full more) are)

letter_no_space : (c : ℕ) → is_letter_or_digit c ≡ true → (c == 0x20) ≡ false
unfolding is_letter_or_digit
letter_no_space c is = grind (arith, nat_tests)

hyphen_next : (letter : Bool) (b c : ℕ) → is_inner_hyphen letter b c ≡ true → (c == 0x20) ≡ false
hyphen_next letter b c is = letter_no_space c (both_last (b == 0x2D) (is_letter_or_digit c) (both_last letter ((b == 0x2D) && is_letter_or_digit c) is))

-- words that can be cut off: behind a word without gap stands an ASCII byte, or nothing
abbrev pub AreCutAtAscii : List Word → Type 0
AreCutAtAscii [] = 0 ≤ 0
AreCutAtAscii (w ∷ more) = (w.gap ≡ 0 → slice_index (flat_map word_whole more) 0 < 128) × AreCutAtAscii more

space_ascii_by : (w : Word) (more : List Word) (empty : Bool) → AreCutAtAscii (w ∷ more)
    → AreCutAtAscii (if empty then record { text = []; gap = w.gap + 1 } ∷ more else record { text = []; gap = 1 } ∷ w ∷ more)
space_ascii_by w more true at = (λ none. absurd (omega (arith, none)), at.1)
space_ascii_by w more false at = (λ none. absurd (omega (arith, none)), at)

space_ascii : (ws : List Word) → AreCutAtAscii ws → AreCutAtAscii (with_space ws)
space_ascii [] at = (λ none. absurd (omega (arith, none)), omega arith)
space_ascii (w ∷ more) at = space_ascii_by w more (length w.text == 0) at

byte_ascii : (b : ℕ) (ws : List Word) → AreCutAtAscii ws → AreCutAtAscii (with_byte b ws)
byte_ascii b [] at = (λ none. omega arith, omega arith)
byte_ascii b (w ∷ more) at = at

letter_ascii : (c : ℕ) → is_letter_or_digit c ≡ true → c < 128
unfolding is_letter_or_digit
letter_ascii c is = grind (arith, nat_tests)

-- what words are, where a byte that is no space begins them and where not
pub record AreWords (text : List ℕ) (ws : List Word) : Type 0 where
  pub whole : flat_map word_whole ws ≡ text
  pub words : are_words ws ≡ true
  pub ascii : AreCutAtAscii ws
  pub full : (slice_index text 0 == 0x20) ≡ false → list_all is_full ws ≡ true

byte_first : (letter : Bool) (b : ℕ) (rest : List ℕ) (hyphen : Bool) → (b == 0x20) ≡ false → is_inner_hyphen letter b (slice_index rest 0) ≡ hyphen
    → AreWords rest (words_behind false rest) → AreWords rest (words_behind (is_letter_or_digit b) rest)
    → AreWords (b ∷ rest) (if hyphen then record { text = b ∷ []; gap = 0 } ∷ words_behind false rest else with_byte b (words_behind (is_letter_or_digit b) rest))
byte_first letter b rest true other is cut on =
    let full : list_all is_full (words_behind false rest) ≡ true = cut.full (hyphen_next letter b (slice_index rest 0) is) in
    let letters : is_letter_or_digit (slice_index rest 0) ≡ true = both_last (b == 0x2D) (is_letter_or_digit (slice_index rest 0)) (both_last letter ((b == 0x2D) && is_letter_or_digit (slice_index rest 0)) is) in
    let next : slice_index (flat_map word_whole (words_behind false rest)) 0 < 128 = subst (λ l. slice_index l 0 < 128) (sym cut.whole) (letter_ascii (slice_index rest 0) letters) in
    let all : list_all is_full (record { text = b ∷ []; gap = 0 } ∷ words_behind false rest) ≡ true = rw other full in
    record { whole = ap (λ l. b ∷ l) cut.whole; words = full_words (record { text = b ∷ []; gap = 0 } ∷ words_behind false rest) all; ascii = (λ _. next, cut.ascii); full = λ _. all }
byte_first letter b rest false other is cut on =
    let all : list_all is_full (with_byte b (words_behind (is_letter_or_digit b) rest)) ≡ true = byte_words b (words_behind (is_letter_or_digit b) rest) other on.words in
    record { whole = byte_whole b (words_behind (is_letter_or_digit b) rest) ∙ ap (λ l. b ∷ l) on.whole; words = full_words (with_byte b (words_behind (is_letter_or_digit b) rest)) all; ascii = byte_ascii b (words_behind (is_letter_or_digit b) rest) on.ascii; full = λ _. all }

any_first : (letter : Bool) (b : ℕ) (rest : List ℕ) (space : Bool) → (b == 0x20) ≡ space
    → AreWords rest (words_behind false rest) → AreWords rest (words_behind (is_letter_or_digit b) rest)
    → AreWords (b ∷ rest) (if space then with_space (words_behind false rest)
    else if is_inner_hyphen letter b (slice_index rest 0) then record { text = b ∷ []; gap = 0 } ∷ words_behind false rest
    else with_byte b (words_behind (is_letter_or_digit b) rest))
any_first letter b rest true is cut on =
    let here : b ≡ 0x20 = grind (arith, nat_tests) in
    record {
      whole = space_whole (words_behind false rest) ∙ ap (λ l. 0x20 ∷ l) cut.whole ∙ ap (λ c. c ∷ rest) (sym here);
      words = space_words (words_behind false rest) cut.words;
      ascii = space_ascii (words_behind false rest) cut.ascii;
      full = λ off. let none : true ≡ false = sym is ∙ off in cc;
    }
any_first letter b rest false is cut on = byte_first letter b rest (is_inner_hyphen letter b (slice_index rest 0)) is refl cut on

pub are_words_of : (letter : Bool) (text : List ℕ) → AreWords text (words_behind letter text)
are_words_of letter [] = record { whole = refl; words = refl; ascii = omega arith; full = λ _. refl }
are_words_of letter (b ∷ rest) = any_first letter b rest (b == 0x20) refl (are_words_of false rest) (are_words_of (is_letter_or_digit b) rest)

-- the texts of words of a text in UTF-8 are in UTF-8
cut_before : (xs ys : List ℕ) → slice_index ys 0 < 128 → IsUtf8 (xs ++ ys) → IsUtf8 xs × IsUtf8 ys
cut_before xs [] ascii utf8 = (subst IsUtf8 (append-nil xs) utf8, IsUtf8-nil)
cut_before xs (y ∷ ys) ascii utf8 =
    let text : List ℕ = xs ++ y ∷ ys in
    let within : length xs < length text = omega (arith, length-append xs (y ∷ ys)) in
    let byte : get_or text (length xs) 0 < 128 = rw (get_or_at xs y ys 0 (length xs) refl) ascii in
    let edge = IsCharBoundary-before_ascii text (length xs) within byte in
    (subst IsUtf8 (take_at xs (y ∷ ys) (length xs) refl) (IsUtf8-take text (length xs) utf8 edge), subst IsUtf8 (drop_at xs (y ∷ ys) (length xs) refl) (IsUtf8-drop text (length xs) utf8 edge))

after_space : (text : List ℕ) → IsUtf8 (0x20 ∷ text) → IsUtf8 text
unfolding lib.Utf8.encode
after_space text utf8 = IsUtf8-past_char (0x20 ∷ text) text 0x20 utf8 refl

after_spaces : (n : ℕ) (text : List ℕ) → IsUtf8 (spaces n ++ text) → IsUtf8 text
after_spaces zero text utf8 = utf8
after_spaces (suc n) text utf8 = after_spaces n text (after_space (spaces n ++ text) utf8)

seam : (text rest : List ℕ) (n : ℕ) → (n ≡ 0 → slice_index rest 0 < 128) → IsUtf8 ((text ++ spaces n) ++ rest) → IsUtf8 text × IsUtf8 rest
seam text rest zero ascii utf8 = cut_before text rest (ascii refl) (subst (λ l. IsUtf8 (l ++ rest)) (append-nil text) utf8)
seam text rest (suc n) ascii utf8 =
    let parts = cut_before text (spaces (suc n) ++ rest) (omega arith) (subst IsUtf8 (append_assoc text (spaces (suc n)) rest) utf8) in
    (parts.0, after_spaces (suc n) rest parts.1)

abbrev pub AreUtf8 : List Word → Type 0
AreUtf8 [] = 0 ≤ 0
AreUtf8 (w ∷ more) = IsUtf8 w.text × AreUtf8 more

pub words_utf8 : (ws : List Word) → AreCutAtAscii ws → IsUtf8 (flat_map word_whole ws) → AreUtf8 ws
words_utf8 [] at utf8 = omega arith
words_utf8 (w ∷ more) (here, at) utf8 =
    let parts = seam w.text (flat_map word_whole more) w.gap here utf8 in
    (parts.0, words_utf8 more at parts.1)
