-- The words of a part, from its front.
use Rattle.std.proofs.Common.{◌≡◌, ℕ, ◌+◌, ◌-◌, ◌<◌, Bool, true, false, List, [], ◌∷◌, ◌++◌, length, take, drop, eqb, ltb, ◌&&◌, if◌then◌else◌, refl, sym, ap, subst, ◌∙◌, arith, get_or, append-nil, ⊎_elim, suc}
use Rattle.std.specs.List.{prefix_len, slice_index, take_while}
use Rattle.std.proofs.Math.Nat.{eq-zero-or-pos}
use Rattle.std.specs.Str.{IsUtf8, IsCharBoundary}
use Rattle.std.proofs.lemmas.Bool.Decides.{nat_tests}
use Rattle.std.proofs.lemmas.List.{take_more, drop_more, drop_all, length-drop, drop-drop, take_all, get_or-drop}
use Rattle.std.proofs.lemmas.List.Folds.{length-prefix_len}
use Rattle.std.proofs.lemmas.List.Sums.{prefix_len-le-length, prefix_len_passes, prefix_len-drop_yes}
use Rattle.std.proofs.lemmas.Str.{IsCharBoundary-after_ascii}
use Rattle.textwrap.specs.Words.{Word, is_letter_or_digit, is_inner_hyphen, with_space, with_byte, words_behind, words}

-- bytes before the first of some words
unfoldable pub fronted : List ℕ → List Word → List Word
fronted [] ws = ws
fronted (b ∷ bs) ws = with_byte b (fronted bs ws)

abbrev word : List ℕ → ℕ → Word
word text gap = record { text = text; gap = gap }

fronted_push : (xs : List ℕ) (b : ℕ) (ws : List Word) → fronted (xs ++ b ∷ []) ws ≡ fronted xs (with_byte b ws)
unfolding fronted
fronted_push [] b ws = refl
fronted_push (x ∷ xs) b ws = ap (with_byte x) (fronted_push xs b ws)

pub fronted_first : (xs text : List ℕ) (gap : ℕ) (ws : List Word) → fronted xs (word text gap ∷ ws) ≡ word (xs ++ text) gap ∷ ws
unfolding fronted
fronted_first [] text gap ws = refl
fronted_first (x ∷ xs) text gap ws = ap (with_byte x) (fronted_first xs text gap ws)

pub fronted_all : (b : ℕ) (bs : List ℕ) → fronted (b ∷ bs) [] ≡ word (b ∷ bs) 0 ∷ []
unfolding fronted
fronted_all b [] = refl
fronted_all b (c ∷ bs) = ap (with_byte b) (fronted_all c bs)

abbrev space : ℕ → Bool
space byte = eqb byte 0x20

pub not_none : (n : ℕ) → eqb (suc n) 0 ≡ false
not_none n = grind (arith, nat_tests)

begins_some : (b : ℕ) (ws : List Word) → with_space (with_byte b ws) ≡ word [] 1 ∷ with_byte b ws
begins_some b [] = refl
begins_some b (w ∷ ws) =
    ap (λ (v : Bool). if v then word [] (w.gap + 1) ∷ ws else word [] 1 ∷ word (b ∷ w.text) w.gap ∷ ws) (not_none (length w.text))

begins_either : (cut : Bool) (b : ℕ) (xs ys : List Word)
    → with_space (if cut then word (b ∷ []) 0 ∷ xs else with_byte b ys) ≡ word [] 1 ∷ (if cut then word (b ∷ []) 0 ∷ xs else with_byte b ys)
begins_either true b xs ys = refl
begins_either false b xs ys = begins_some b ys

-- a space before what no space begins
one_space : (rest : List ℕ) → prefix_len space rest ≡ 0 → with_space (words_behind false rest) ≡ word [] 1 ∷ words_behind false rest
one_space [] e = refl
one_space (b ∷ rest) e =
    elim (eqb b 0x20) as (λ (v : Bool). (if v then 1 + prefix_len space rest else 0) ≡ 0
    → with_space (if v then with_space (words_behind false rest) else if is_inner_hyphen false b (slice_index rest 0) then word (b ∷ []) 0 ∷ words_behind false rest else with_byte b (words_behind (is_letter_or_digit b) rest))
    ≡ word [] 1 ∷ (if v then with_space (words_behind false rest) else if is_inner_hyphen false b (slice_index rest 0) then word (b ∷ []) 0 ∷ words_behind false rest else with_byte b (words_behind (is_letter_or_digit b) rest))) [
      | true ↦ λ h. absurd (omega arith)
      | false ↦ λ h. begins_either (is_inner_hyphen false b (slice_index rest 0)) b (words_behind false rest) (words_behind (is_letter_or_digit b) rest)
    ] e

-- a run of spaces is the gap of an empty word
spaces_first : (letter : Bool) (rest : List ℕ) (n : ℕ) → prefix_len space rest ≡ n → 0 < n → words_behind letter rest ≡ word [] n ∷ words_behind false (drop n rest)
spaces_first letter [] n e lt = absurd (omega arith)
spaces_first letter (b ∷ rest) n e lt =
    elim (eqb b 0x20) as (λ (v : Bool). (if v then 1 + prefix_len space rest else 0) ≡ n
    → (if v then with_space (words_behind false rest) else if is_inner_hyphen letter b (slice_index rest 0) then word (b ∷ []) 0 ∷ words_behind false rest else with_byte b (words_behind (is_letter_or_digit b) rest))
    ≡ word [] n ∷ words_behind false (drop n (b ∷ rest))) [
      | false ↦ λ h. absurd (omega arith)
      | true ↦ λ h.
          ⊎_elim (λ none.
          let last : 1 ≡ n = omega arith in
          subst (λ k. with_space (words_behind false rest) ≡ word [] k ∷ words_behind false (drop k (b ∷ rest))) last (one_space rest none))
          (λ some.
          let m : ℕ = prefix_len space rest in
          let next : suc m ≡ n = omega arith in
          let count : m + 1 ≡ suc m = omega arith in
          ap with_space (spaces_first false rest m refl some)
          ∙ ap (λ j. word [] j ∷ words_behind false (drop m rest)) count
          ∙ ap (λ k. word [] k ∷ words_behind false (drop k (b ∷ rest))) next)
          (eq-zero-or-pos (prefix_len space rest))
    ] e

-- whether an ASCII letter or digit stands before a place
abbrev pub letter_before : List ℕ → ℕ → Bool
letter_before bytes at = ltb 0 at && is_letter_or_digit (slice_index bytes (at - 1))

abbrev word_cases : Bool → ℕ → ℕ → List ℕ → List Word
word_cases letter b next rest =
    if eqb b 0x20 then with_space (words_behind false rest)
    else if is_inner_hyphen letter b next then word (b ∷ []) 0 ∷ words_behind false rest
    else with_byte b (words_behind (is_letter_or_digit b) rest)

words_at : (letter : Bool) (bytes : List ℕ) (at : ℕ) → at < length bytes
    → words_behind letter (drop at bytes) ≡ word_cases letter (get_or bytes at 0) (get_or bytes (at + 1) 0) (drop (at + 1) bytes)
words_at letter bytes at lt =
    let place : at + 1 + 0 ≡ at + 1 = omega arith in
    ap (words_behind letter) (drop_more bytes at 0 lt)
    ∙ ap (λ next. word_cases letter (get_or bytes at 0) next (drop (at + 1) bytes)) (get_or-drop (at + 1) bytes 0 0 ∙ ap (λ k. get_or bytes k 0) place)

plain_case : (letter : Bool) (b next : ℕ) (rest : List ℕ) → eqb b 0x20 ≡ false → is_inner_hyphen letter b next ≡ false
    → word_cases letter b next rest ≡ with_byte b (words_behind (is_letter_or_digit b) rest)
plain_case letter b next rest no_space no_cut =
    ap (λ (v : Bool). if v then with_space (words_behind false rest) else if is_inner_hyphen letter b next then word (b ∷ []) 0 ∷ words_behind false rest else with_byte b (words_behind (is_letter_or_digit b) rest)) no_space
    ∙ ap (λ (v : Bool). if v then word (b ∷ []) 0 ∷ words_behind false rest else with_byte b (words_behind (is_letter_or_digit b) rest)) no_cut

cut_case : (letter : Bool) (b next : ℕ) (rest : List ℕ) → eqb b 0x20 ≡ false → is_inner_hyphen letter b next ≡ true
    → word_cases letter b next rest ≡ word (b ∷ []) 0 ∷ words_behind false rest
cut_case letter b next rest no_space cut =
    ap (λ (v : Bool). if v then with_space (words_behind false rest) else if is_inner_hyphen letter b next then word (b ∷ []) 0 ∷ words_behind false rest else with_byte b (words_behind (is_letter_or_digit b) rest)) no_space
    ∙ ap (λ (v : Bool). if v then word (b ∷ []) 0 ∷ words_behind false rest else with_byte b (words_behind (is_letter_or_digit b) rest)) cut

-- what the words before a place and those behind it make
abbrev pub words_from : List ℕ → ℕ → List Word
words_from bytes at = fronted (take at bytes) (words_behind (letter_before bytes at) (drop at bytes))

pub words_start : (bytes : List ℕ) → words_from bytes 0 ≡ words bytes
unfolding fronted words
words_start bytes = refl

pub word_step : (bytes : List ℕ) (at : ℕ) → at < length bytes → eqb (get_or bytes at 0) 0x20 ≡ false
    → is_inner_hyphen (letter_before bytes at) (get_or bytes at 0) (get_or bytes (at + 1) 0) ≡ false
    → words_from bytes (at + 1) ≡ words_from bytes at
word_step bytes at lt no_space no_cut =
    let b : ℕ = get_or bytes at 0 in
    let rest : List ℕ = drop (at + 1) bytes in
    let place : at + 1 - 1 ≡ at = omega arith in
    let some : ltb 0 (at + 1) ≡ true = grind (arith, nat_tests) in
    let letter : letter_before bytes (at + 1) ≡ is_letter_or_digit b =
    ap (λ (v : Bool). v && is_letter_or_digit (get_or bytes (at + 1 - 1) 0)) some ∙ ap (λ k. is_letter_or_digit (get_or bytes k 0)) place in
    ap (λ (v : Bool). fronted (take (at + 1) bytes) (words_behind v rest)) letter
    ∙ ap (λ l. fronted l (words_behind (is_letter_or_digit b) rest)) (take_more bytes at 0 lt)
    ∙ fronted_push (take at bytes) b (words_behind (is_letter_or_digit b) rest)
    ∙ ap (fronted (take at bytes)) (sym (words_at (letter_before bytes at) bytes at lt ∙ plain_case (letter_before bytes at) b (get_or bytes (at + 1) 0) rest no_space no_cut))

-- a word cut behind a hyphen
pub word_cut : (bytes : List ℕ) (at : ℕ) → at < length bytes → eqb (get_or bytes at 0) 0x20 ≡ false
    → is_inner_hyphen (letter_before bytes at) (get_or bytes at 0) (get_or bytes (at + 1) 0) ≡ true
    → words_from bytes at ≡ words bytes
    → words bytes ≡ word (take (at + 1) bytes) 0 ∷ words (drop (at + 1 + 0) bytes)
unfolding words
word_cut bytes at lt no_space cut kept =
    let b : ℕ = get_or bytes at 0 in
    let rest : List ℕ = drop (at + 1) bytes in
    let place : at + 1 ≡ at + 1 + 0 = omega arith in
    sym kept
    ∙ ap (fronted (take at bytes)) (words_at (letter_before bytes at) bytes at lt ∙ cut_case (letter_before bytes at) b (get_or bytes (at + 1) 0) rest no_space cut)
    ∙ fronted_first (take at bytes) (b ∷ []) 0 (words_behind false rest)
    ∙ ap (λ l. word l 0 ∷ words_behind false rest) (sym (take_more bytes at 0 lt))
    ∙ ap (λ k. word (take (at + 1) bytes) 0 ∷ words_behind false (drop k bytes)) place

is_hyphen : (letter : Bool) (b next : ℕ) → is_inner_hyphen letter b next ≡ true → b ≡ 0x2D
is_hyphen letter b next cut = grind (arith, nat_tests)

pub cut_edge : (bytes : List ℕ) (at : ℕ) → IsUtf8 bytes → at < length bytes
    → is_inner_hyphen (letter_before bytes at) (get_or bytes at 0) (get_or bytes (at + 1) 0) ≡ true → IsCharBoundary bytes (at + 1)
cut_edge bytes at utf8 lt cut =
    IsCharBoundary-after_ascii bytes at utf8 lt (omega (arith, is_hyphen (letter_before bytes at) (get_or bytes at 0) (get_or bytes (at + 1) 0) cut))

-- a word with spaces behind it
pub word_spaced : (bytes : List ℕ) (at n : ℕ) → at < length bytes → eqb (get_or bytes at 0) 0x20 ≡ true → n ≡ length (take_while space (drop at bytes))
    → words_from bytes at ≡ words bytes
    → words bytes ≡ word (take at bytes) n ∷ words (drop (at + n) bytes)
unfolding words
word_spaced bytes at n lt is_space count kept =
    let run : prefix_len space (drop at bytes) ≡ n = sym (count ∙ length-prefix_len space (drop at bytes)) in
    let some : 0 < n = omega (arith, prefix_len-drop_yes space bytes at 0 lt is_space, run) in
    sym kept
    ∙ ap (fronted (take at bytes)) (spaces_first (letter_before bytes at) (drop at bytes) n run some)
    ∙ fronted_first (take at bytes) [] n (words_behind false (drop n (drop at bytes)))
    ∙ ap (λ l. word l n ∷ words_behind false (drop n (drop at bytes))) (append-nil (take at bytes))
    ∙ ap (λ l. word (take at bytes) n ∷ words_behind false l) (drop-drop n at bytes)

-- one space at least, and the text may be cut behind the last
pub spaced_edge : (bytes : List ℕ) (at n : ℕ) → IsUtf8 bytes → at < length bytes → eqb (get_or bytes at 0) 0x20 ≡ true → n ≡ length (take_while space (drop at bytes))
    → (0 < n) × IsCharBoundary bytes (at + n)
spaced_edge bytes at n utf8 lt is_space count =
    let run : prefix_len space (drop at bytes) ≡ n = sym (count ∙ length-prefix_len space (drop at bytes)) in
    let some : 0 < n = omega (arith, prefix_len-drop_yes space bytes at 0 lt is_space, run) in
    let last : eqb (get_or (drop at bytes) (n - 1) 0) 0x20 ≡ true = prefix_len_passes space (drop at bytes) (n - 1) 0 (omega arith) in
    let there : get_or (drop at bytes) (n - 1) 0 ≡ get_or bytes (at + (n - 1)) 0 = get_or-drop at bytes (n - 1) 0 in
    let ascii : get_or bytes (at + (n - 1)) 0 < 128 = grind (arith, nat_tests) in
    let place : at + (n - 1) + 1 ≡ at + n = omega arith in
    (some, subst (IsCharBoundary bytes) place (IsCharBoundary-after_ascii bytes (at + (n - 1)) utf8 (omega (arith, prefix_len-le-length space (drop at bytes), length-drop at bytes)) ascii))

-- a last word
pub word_whole : (bytes : List ℕ) (n : ℕ) → n ≡ length bytes → 0 < length bytes → words_from bytes n ≡ words bytes
    → words bytes ≡ word (take n bytes) 0 ∷ words (drop (n + 0) bytes)
unfolding words
word_whole [] n e some kept = absurd (omega arith)
word_whole (b ∷ bs) n e some kept =
    let all : take n (b ∷ bs) ≡ b ∷ bs = take_all n (b ∷ bs) (omega arith) in
    let nothing : drop n (b ∷ bs) ≡ [] = drop_all n (b ∷ bs) (omega arith) in
    let place : n ≡ n + 0 = omega arith in
    sym kept
    ∙ ap (λ l. fronted (take n (b ∷ bs)) (words_behind (letter_before (b ∷ bs) n) l)) nothing
    ∙ ap (λ l. fronted l []) all
    ∙ fronted_all b bs
    ∙ ap (λ l. word l 0 ∷ []) (sym all)
    ∙ ap (λ l. word (take n (b ∷ bs)) 0 ∷ words_behind false l) (sym nothing)
    ∙ ap (λ k. word (take n (b ∷ bs)) 0 ∷ words_behind false (drop k (b ∷ bs))) place
