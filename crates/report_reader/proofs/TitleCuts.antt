-- The pieces of a part, joined with their gaps, are the part; the last gap apart, that is the part without the spaces at its end.
use Rattle.std.proofs.Common.{◌≡◌, ℕ, ◌<◌, ◌==◌, Bool, true, false, not, ◌&&◌, nat_lt, List, [], ◌∷◌, ◌++◌, length, chars, encode_utf8, encode_utf8_all, if◌then◌else◌, refl, sym, ap, subst, ◌∙◌, arith, zero, suc}
use Rattle.std.specs.List.{flat_map, list_all, concat}
use Rattle.std.specs.Str.{IsUtf8}
use Rattle.std.proofs.lemmas.List.{append_assoc, append-nil, length-append}
use Rattle.std.proofs.lemmas.Str.{encodes-chars, length-encode, len_utf8_bounds}
use Rattle.std.proofs.lemmas.Bool.Decides.{nat_tests}
use Rattle.textwrap.specs.declared.pen.Pen.{Pen}
use Rattle.textwrap.specs.Width.{at_start, moved}
use Rattle.textwrap.specs.Cuts.{before_first, cuts_behind, cuts}
use Rattle.textwrap.specs.Words.{Word, words}
use Rattle.textwrap.specs.Pieces.{PieceView, with_gap, word_pieces, pieces}
use Rattle.textwrap.specs.Filled.{spaces, line_text}
use Rattle.report_reader.specs.Title.{kept, without_last_spaces}
use Rattle.report_reader.proofs.TitleWords.{has_no, both, both_first, both_last, has_no-append, has_no_first, has_no_last, word_whole, is_word, is_full, are_words, AreUtf8, are_words_of, words_utf8}
use Rattle.report_reader.proofs.BytesLemmas.{all_append, not_eq}

abbrev is_text : List ℕ → Bool
is_text text = has_no 0x20 text

abbrev is_full_text : List ℕ → Bool
is_full_text text = is_text text && not (length text == 0)

abbrev are_texts : List (List ℕ) → Bool
are_texts [] = false
are_texts (t ∷ more) = is_text t && list_all is_full_text more

abbrev are_full_texts : List (List ℕ) → Bool
are_full_texts [] = false
are_full_texts (t ∷ more) = is_full_text t && list_all is_full_text more

record AreCuts (text : List ℕ) (texts : List (List ℕ)) : Type 0 where
  whole : concat texts ≡ text
  parts : has_no 0x20 text ≡ true → are_texts texts ≡ true

not_empty : (text : List ℕ) → 0 < length text → not (length text == 0) ≡ true
not_empty text some = grind (arith, nat_tests)

before_whole : (bytes : List ℕ) (texts : List (List ℕ)) → concat (before_first bytes texts) ≡ bytes ++ concat texts
before_whole bytes [] = refl
before_whole bytes (t ∷ more) = append_assoc bytes t (concat more)

before_texts : (bytes : List ℕ) (texts : List (List ℕ)) → 0 < length bytes → has_no 0x20 bytes ≡ true → are_texts texts ≡ true → are_full_texts (before_first bytes texts) ≡ true
before_texts bytes [] some clean are = let no : false ≡ true = are in cc
before_texts bytes (t ∷ more) some clean are =
    both _ _ (both _ _ (has_no-append 0x20 bytes t clean (both_first (is_text t) (list_all is_full_text more) are)) (not_empty (bytes ++ t) (omega (arith, length-append bytes t)))) (both_last (is_text t) (list_all is_full_text more) are)

full_texts : (texts : List (List ℕ)) → are_full_texts texts ≡ true → are_texts texts ≡ true
full_texts [] are = are
full_texts (t ∷ more) are = both _ _ (both_first (is_text t) (not (length t == 0)) (both_first (is_full_text t) (list_all is_full_text more) are)) (both_last (is_full_text t) (list_all is_full_text more) are)

all_full : (texts : List (List ℕ)) → are_full_texts texts ≡ true → list_all is_full_text texts ≡ true
all_full [] are = refl
all_full (t ∷ more) are = are

char_some : (c : ℕ) → 0 < length (encode_utf8 c)
char_some c = omega (arith, length-encode c, (len_utf8_bounds c).0)

cuts_by : (c : ℕ) (cs : List ℕ) (breaks : Bool) (one other : List (List ℕ)) → AreCuts (encode_utf8_all cs) one → AreCuts (encode_utf8_all cs) other
    → AreCuts (encode_utf8_all (c ∷ cs)) (if breaks then [] ∷ before_first (encode_utf8 c) one else before_first (encode_utf8 c) other)
cuts_by c cs true one other first last = record {
  whole = before_whole (encode_utf8 c) one ∙ ap (λ l. encode_utf8 c ++ l) first.whole;
  parts = λ clean. all_full (before_first (encode_utf8 c) one) (before_texts (encode_utf8 c) one (char_some c) (has_no_first 0x20 (encode_utf8 c) (encode_utf8_all cs) clean) (first.parts (has_no_last 0x20 (encode_utf8 c) (encode_utf8_all cs) clean)));
}
cuts_by c cs false one other first last = record {
  whole = before_whole (encode_utf8 c) other ∙ ap (λ l. encode_utf8 c ++ l) last.whole;
  parts = λ clean. full_texts (before_first (encode_utf8 c) other) (before_texts (encode_utf8 c) other (char_some c) (has_no_first 0x20 (encode_utf8 c) (encode_utf8_all cs) clean) (last.parts (has_no_last 0x20 (encode_utf8 c) (encode_utf8_all cs) clean)));
}

cuts_are : (room : ℕ) (some : Bool) (pen : Pen) (cs : List ℕ) → AreCuts (encode_utf8_all cs) (cuts_behind room some pen cs)
cuts_are room some pen [] = record { whole = refl; parts = λ clean. refl }
cuts_are room some pen (c ∷ cs) =
    cuts_by c cs (some && nat_lt room (moved pen c).width) (cuts_behind room true (moved at_start c) cs) (cuts_behind room true (moved pen c) cs)
    (cuts_are room true (moved at_start c) cs) (cuts_are room true (moved pen c) cs)

-- the cuts of a word that is not empty: none of them is
cuts_full : (room : ℕ) (cs : List ℕ) → 0 < length (encode_utf8_all cs) → has_no 0x20 (encode_utf8_all cs) ≡ true → are_full_texts (cuts_behind room false at_start cs) ≡ true
cuts_full room [] some clean = absurd (omega (arith, some))
cuts_full room (c ∷ cs) some clean =
    before_texts (encode_utf8 c) (cuts_behind room true (moved at_start c) cs) (char_some c) (has_no_first 0x20 (encode_utf8 c) (encode_utf8_all cs) clean)
    ((cuts_are room true (moved at_start c) cs).parts (has_no_last 0x20 (encode_utf8 c) (encode_utf8_all cs) clean))

-- pieces

abbrev pub piece_whole : PieceView → List ℕ
piece_whole p = p.text ++ spaces p.gap

abbrev is_piece : PieceView → Bool
is_piece p = is_text p.text

abbrev is_full_piece : PieceView → Bool
is_full_piece p = is_full_text p.text

abbrev pub are_pieces : List PieceView → Bool
are_pieces [] = true
are_pieces (p ∷ more) = is_piece p && list_all is_full_piece more

gap_whole : (gap : ℕ) (t : List ℕ) (more : List (List ℕ)) → flat_map piece_whole (with_gap gap (t ∷ more)) ≡ concat (t ∷ more) ++ spaces gap
gap_whole gap t [] = append-nil (t ++ spaces gap) ∙ ap (λ l. l ++ spaces gap) (sym (append-nil t))
gap_whole gap t (next ∷ more) =
    ap (λ l. l ++ flat_map piece_whole (with_gap gap (next ∷ more))) (append-nil t)
    ∙ ap (λ l. t ++ l) (gap_whole gap next more) ∙ sym (append_assoc t (concat (next ∷ more)) (spaces gap))

gap_full : (gap : ℕ) (texts : List (List ℕ)) → list_all is_full_text texts ≡ true → list_all is_full_piece (with_gap gap texts) ≡ true
gap_full gap [] are = refl
gap_full gap (t ∷ []) are = are
gap_full gap (t ∷ next ∷ more) are = both _ _ (both_first (is_full_text t) (list_all is_full_text (next ∷ more)) are) (gap_full gap (next ∷ more) (both_last (is_full_text t) (list_all is_full_text (next ∷ more)) are))

gap_pieces : (gap : ℕ) (texts : List (List ℕ)) → are_texts texts ≡ true → are_pieces (with_gap gap texts) ≡ true
gap_pieces gap [] are = refl
gap_pieces gap (t ∷ []) are = are
gap_pieces gap (t ∷ next ∷ more) are = both _ _ (both_first (is_text t) (list_all is_full_text (next ∷ more)) are) (gap_full gap (next ∷ more) (both_last (is_text t) (list_all is_full_text (next ∷ more)) are))

some_cuts : (gap : ℕ) (text : List ℕ) (texts : List (List ℕ)) → are_texts texts ≡ true → concat texts ≡ text → flat_map piece_whole (with_gap gap texts) ≡ text ++ spaces gap
some_cuts gap text [] are is = let no : false ≡ true = are in cc
some_cuts gap text (t ∷ more) are is = gap_whole gap t more ∙ ap (λ l. l ++ spaces gap) is

word_is : (room : ℕ) (w : Word) → IsUtf8 w.text → is_word w ≡ true → flat_map piece_whole (word_pieces room w) ≡ word_whole w
unfolding word_pieces cuts
word_is room w utf8 clean =
    let same = encodes-chars w.text utf8 in
    let cut = cuts_are room false at_start (chars w.text) in
    some_cuts w.gap w.text (cuts_behind room false at_start (chars w.text)) (cut.parts (subst (λ l. has_no 0x20 l ≡ true) (sym same) clean)) (cut.whole ∙ same)

word_are : (room : ℕ) (w : Word) → IsUtf8 w.text → is_word w ≡ true → are_pieces (word_pieces room w) ≡ true
unfolding word_pieces cuts
word_are room w utf8 clean =
    let same = encodes-chars w.text utf8 in
    gap_pieces w.gap (cuts_behind room false at_start (chars w.text)) ((cuts_are room false at_start (chars w.text)).parts (subst (λ l. has_no 0x20 l ≡ true) (sym same) clean))

word_full : (room : ℕ) (w : Word) → IsUtf8 w.text → is_full w ≡ true → list_all is_full_piece (word_pieces room w) ≡ true
unfolding word_pieces cuts
word_full room w utf8 full =
    let same = encodes-chars w.text utf8 in
    let clean : has_no 0x20 w.text ≡ true = both_first (is_word w) (not (length w.text == 0)) full in
    let some : not (length w.text == 0) ≡ true = both_last (is_word w) (not (length w.text == 0)) full in
    let size : 0 < length (encode_utf8_all (chars w.text)) = subst (λ l. 0 < length l) (sym same) (grind (arith, nat_tests)) in
    let texts : List (List ℕ) = cuts_behind room false at_start (chars w.text) in
    gap_full w.gap texts (all_full texts (cuts_full room (chars w.text) size (subst (λ l. has_no 0x20 l ≡ true) (sym same) clean)))

pieces_append : (xs ys : List PieceView) → are_pieces xs ≡ true → list_all is_full_piece ys ≡ true → 0 < length xs → are_pieces (xs ++ ys) ≡ true
pieces_append [] ys first last some = absurd (omega (arith, some))
pieces_append (x ∷ xs) ys first last some = both _ _ (both_first (is_piece x) (list_all is_full_piece xs) first) (all_append is_full_piece xs ys (both_last (is_piece x) (list_all is_full_piece xs) first) last)

flat_append : (xs ys : List PieceView) → flat_map piece_whole (xs ++ ys) ≡ flat_map piece_whole xs ++ flat_map piece_whole ys
flat_append [] ys = refl
flat_append (x ∷ xs) ys = ap (λ l. piece_whole x ++ l) (flat_append xs ys) ∙ sym (append_assoc (piece_whole x) (flat_map piece_whole xs) (flat_map piece_whole ys))

all_whole : (room : ℕ) (ws : List Word) → AreUtf8 ws → list_all is_full ws ≡ true → (flat_map piece_whole (flat_map (word_pieces room) ws) ≡ flat_map word_whole ws) × (list_all is_full_piece (flat_map (word_pieces room) ws) ≡ true)
all_whole room [] utf8 are = (refl, refl)
all_whole room (w ∷ more) (here, utf8) are =
    let full : is_full w ≡ true = both_first (is_full w) (list_all is_full more) are in
    let rest = all_whole room more utf8 (both_last (is_full w) (list_all is_full more) are) in (
      flat_append (word_pieces room w) (flat_map (word_pieces room) more)
          ∙ ap (λ l. l ++ flat_map piece_whole (flat_map (word_pieces room) more)) (word_is room w here (both_first (is_word w) (not (length w.text == 0)) full))
          ∙ ap (λ l. word_whole w ++ l) rest.0,
      all_append is_full_piece (word_pieces room w) (flat_map (word_pieces room) more) (word_full room w here full) rest.1,
    )

some_pieces : (gap : ℕ) (texts : List (List ℕ)) → are_texts texts ≡ true → 0 < length (with_gap gap texts)
some_pieces gap [] are = let no : false ≡ true = are in cc
some_pieces gap (t ∷ []) are = omega arith
some_pieces gap (t ∷ next ∷ more) are = omega arith

word_some : (room : ℕ) (w : Word) → IsUtf8 w.text → is_word w ≡ true → 0 < length (word_pieces room w)
unfolding word_pieces cuts
word_some room w utf8 clean =
    let same = encodes-chars w.text utf8 in
    some_pieces w.gap (cuts_behind room false at_start (chars w.text)) ((cuts_are room false at_start (chars w.text)).parts (subst (λ l. has_no 0x20 l ≡ true) (sym same) clean))

words_are : (room : ℕ) (ws : List Word) → AreUtf8 ws → are_words ws ≡ true → (flat_map piece_whole (flat_map (word_pieces room) ws) ≡ flat_map word_whole ws) × (are_pieces (flat_map (word_pieces room) ws) ≡ true)
words_are room [] utf8 are = (refl, refl)
words_are room (w ∷ more) (here, utf8) are =
    let clean : is_word w ≡ true = both_first (is_word w) (list_all is_full more) are in
    let rest = all_whole room more utf8 (both_last (is_word w) (list_all is_full more) are) in (
      flat_append (word_pieces room w) (flat_map (word_pieces room) more)
          ∙ ap (λ l. l ++ flat_map piece_whole (flat_map (word_pieces room) more)) (word_is room w here clean)
          ∙ ap (λ l. word_whole w ++ l) rest.0,
      pieces_append (word_pieces room w) (flat_map (word_pieces room) more) (word_are room w here clean) rest.1 (word_some room w here clean),
    )

pub pieces_are : (room : ℕ) (text : List ℕ) → IsUtf8 text → (flat_map piece_whole (pieces room text) ≡ text) × (are_pieces (pieces room text) ≡ true)
unfolding pieces words
pieces_are room text utf8 =
    let of = are_words_of false text in
    let all = words_are room (words text) (words_utf8 (words text) of.ascii (subst IsUtf8 (sym of.whole) utf8)) of.words in
    (all.0 ∙ of.whole, all.1)

-- the spaces at the end of a text

none_behind : (xs ys : List ℕ) → without_last_spaces ys ≡ [] → without_last_spaces (xs ++ ys) ≡ without_last_spaces xs
unfolding without_last_spaces
none_behind [] ys none = none
none_behind (x ∷ xs) ys none = ap (kept x) (none_behind xs ys none)

spaces_go : (n : ℕ) → without_last_spaces (spaces n) ≡ []
unfolding without_last_spaces
spaces_go zero = refl
spaces_go (suc n) = ap (kept 0x20) (spaces_go n)

kept_byte : (b : ℕ) (text : List ℕ) → (b == 0x20) ≡ false → kept b text ≡ b ∷ text
kept_byte b [] other = rw other refl
kept_byte b (c ∷ text) other = refl

text_stays : (text : List ℕ) → has_no 0x20 text ≡ true → without_last_spaces text ≡ text
unfolding without_last_spaces
text_stays [] clean = refl
text_stays (b ∷ text) clean =
    ap (kept b) (text_stays text (both_last (not (b == 0x20)) (has_no 0x20 text) clean))
    ∙ kept_byte b text (not_eq b 0x20 (both_first (not (b == 0x20)) (has_no 0x20 text) clean))

kept_some : (b : ℕ) (text : List ℕ) → 0 < length text → kept b text ≡ b ∷ text
kept_some b [] some = absurd (omega (arith, some))
kept_some b (c ∷ text) some = refl

some_behind : (xs ys : List ℕ) → 0 < length (without_last_spaces ys) → without_last_spaces (xs ++ ys) ≡ xs ++ without_last_spaces ys
unfolding without_last_spaces
some_behind [] ys some = refl
some_behind (x ∷ xs) ys some =
    ap (kept x) (some_behind xs ys some) ∙ kept_some x (xs ++ without_last_spaces ys) (omega (arith, some, length-append xs (without_last_spaces ys)))

line_some : (p : PieceView) (more : List PieceView) → is_full_piece p ≡ true → 0 < length (line_text (p ∷ more))
unfolding line_text
line_some p [] full = let some = both_last (is_piece p) (not (length p.text == 0)) full in grind (arith, nat_tests)
line_some p (next ∷ more) full =
    let some : not (length p.text == 0) ≡ true = both_last (is_piece p) (not (length p.text == 0)) full in
    let size : 0 < length p.text = grind (arith, nat_tests) in
    omega (arith, size, length-append (p.text ++ spaces p.gap) (line_text (next ∷ more)), length-append p.text (spaces p.gap))

line_is : (p : PieceView) (more : List PieceView) → are_pieces (p ∷ more) ≡ true → without_last_spaces (flat_map piece_whole (p ∷ more)) ≡ line_text (p ∷ more)
unfolding line_text
line_is p [] are =
    ap without_last_spaces (append-nil (p.text ++ spaces p.gap))
    ∙ none_behind p.text (spaces p.gap) (spaces_go p.gap)
    ∙ text_stays p.text (both_first (is_piece p) true are)
line_is p (next ∷ more) are =
    let full : is_full_piece next ≡ true = both_first (is_full_piece next) (list_all is_full_piece more) (both_last (is_piece p) (list_all is_full_piece (next ∷ more)) are) in
    let rest : are_pieces (next ∷ more) ≡ true = both (is_piece next) (list_all is_full_piece more) (both_first (is_piece next) (not (length next.text == 0)) full) (both_last (is_full_piece next) (list_all is_full_piece more) (both_last (is_piece p) (list_all is_full_piece (next ∷ more)) are)) in
    let later = line_is next more rest in
    some_behind (piece_whole p) (flat_map piece_whole (next ∷ more)) (subst (λ l. 0 < length l) (sym later) (line_some next more full))
    ∙ ap (λ l. piece_whole p ++ l) later

none_text : without_last_spaces [] ≡ []
unfolding without_last_spaces
none_text = refl

pub line_of_pieces : (ps : List PieceView) (text : List ℕ) → flat_map piece_whole ps ≡ text → are_pieces ps ≡ true → line_text ps ≡ without_last_spaces text
unfolding line_text
line_of_pieces [] text is are = sym (ap without_last_spaces (sym is) ∙ none_text)
line_of_pieces (p ∷ more) text is are = sym (line_is p more are) ∙ ap without_last_spaces is
