-- The pieces of a word and of a part, one after another.
use Rattle.std.proofs.Common.{◌≡◌, ℕ, ◌+◌, ◌-◌, Bool, true, false, List, [], ◌∷◌, ◌++◌, length, take, drop, eqb, if◌then◌else◌, refl, sym, ap, ◌∙◌, arith, append_assoc, append-nil, ◌≤◌}
use Rattle.std.proofs.lemmas.Bool.Decides.{nat_tests}
use Rattle.std.proofs.lemmas.List.{take_all, nil_from_length}
use Rattle.std.proofs.lemmas.List.Sums.{sum_by_push}
use Rattle.std.specs.List.{flat_map, slice_range}
use Rattle.std.specs.Str.{chars}
use Rattle.textwrap.specs.Width.{display_width, at_start}
use Rattle.textwrap.specs.Cuts.{cuts, before_first}
use Rattle.textwrap.specs.Words.{Word, words}
use Rattle.textwrap.specs.Pieces.{PieceView, extent, piece, with_gap, word_pieces}
use Rattle.textwrap.proofs.CutsLemmas.{nothing_before, is_cut_at}

some_before : (room : ℕ) (text : List ℕ) → before_first [] (cuts room text) ≡ cuts room text
unfolding cuts
some_before room text = nothing_before room false at_start (chars text)

gap_behind : (gap : ℕ) (text : List ℕ) (texts : List (List ℕ)) → with_gap gap (text ∷ before_first [] texts) ≡ piece text 0 ∷ with_gap gap (before_first [] texts)
gap_behind gap text [] = refl
gap_behind gap text (t ∷ ts) = refl

-- a word that is cut here
pub pieces_more : (room gap : ℕ) (text : List ℕ) (len : ℕ) → eqb len (length text) ≡ false → cuts room text ≡ is_cut_at room text len
    → with_gap gap (cuts room text) ≡ piece (take len text) 0 ∷ with_gap gap (cuts room (drop len text))
pieces_more room gap text len e cut =
    ap (with_gap gap) (cut ∙ ap (λ (b : Bool). if b then text ∷ [] else take len text ∷ cuts room (drop len text)) e ∙ ap (λ ts. take len text ∷ ts) (sym (some_before room (drop len text))))
    ∙ gap_behind gap (take len text) (cuts room (drop len text))
    ∙ ap (λ ts. piece (take len text) 0 ∷ with_gap gap ts) (some_before room (drop len text))

-- a word's last piece
pub pieces_last : (room gap : ℕ) (text : List ℕ) (len : ℕ) → eqb len (length text) ≡ true → cuts room text ≡ is_cut_at room text len
    → with_gap gap (cuts room text) ≡ piece text gap ∷ []
pieces_last room gap text len e cut = ap (with_gap gap) (cut ∙ ap (λ (b : Bool). if b then text ∷ [] else take len text ∷ cuts room (drop len text)) e)

pub words_none : words [] ≡ []
unfolding words
words_none = refl

pub push_more : (done all : List PieceView) (room gap : ℕ) (text front rest : List ℕ) (len width : ℕ) → eqb len (length text) ≡ false
    → cuts room text ≡ is_cut_at room text len → width ≡ display_width (take len text) → front ≡ take len text → rest ≡ drop len text
    → done ++ with_gap gap (cuts room text) ≡ all
    → (done ++ record { text = front; width = width; gap = 0 } ∷ []) ++ with_gap gap (cuts room rest) ≡ all
push_more done all room gap text front rest len width e cut wide is_front is_rest kept =
    let one : PieceView = record { text = front; width = width; gap = 0 } in
    let same : piece (take len text) 0 ≡ one =
    ap (λ w. record { text = take len text; width = w; gap = 0 }) (sym wide) ∙ ap (λ t. record { text = t; width = width; gap = 0 }) (sym is_front) in
    append_assoc done (one ∷ []) (with_gap gap (cuts room rest))
    ∙ ap (λ r. done ++ one ∷ with_gap gap (cuts room r)) is_rest
    ∙ ap (λ p. done ++ p ∷ with_gap gap (cuts room (drop len text))) (sym same)
    ∙ ap (λ ps. done ++ ps) (sym (pieces_more room gap text len e cut))
    ∙ kept

pub push_last : (done all : List PieceView) (room gap : ℕ) (text : List ℕ) (len width : ℕ) → eqb len (length text) ≡ true
    → cuts room text ≡ is_cut_at room text len → width ≡ display_width (take len text)
    → done ++ with_gap gap (cuts room text) ≡ all
    → done ++ record { text = text; width = width; gap = gap } ∷ [] ≡ all
push_last done all room gap text len width e cut wide kept =
    let long : length text ≤ len = grind (arith, nat_tests) in
    let whole : take len text ≡ text = take_all len text long in
    let same : piece text gap ≡ record { text = text; width = width; gap = gap } =
    ap (λ w. record { text = text; width = w; gap = gap }) (ap display_width (sym whole) ∙ sym wide) in
    ap (λ p. done ++ p ∷ []) (sym same)
    ∙ ap (λ ps. done ++ ps) (sym (pieces_last room gap text len e cut))
    ∙ kept

pub words_more : (done all : List PieceView) (room : ℕ) (rest after : List ℕ) (word : Word) (len : ℕ) → words rest ≡ word ∷ words (drop len rest) → after ≡ drop len rest
    → done ++ flat_map (word_pieces room) (words rest) ≡ all
    → (done ++ word_pieces room word) ++ flat_map (word_pieces room) (words after) ≡ all
words_more done all room rest after word len first is_after kept =
    append_assoc done (word_pieces room word) (flat_map (word_pieces room) (words after))
    ∙ ap (λ r. done ++ (word_pieces room word ++ flat_map (word_pieces room) (words r))) is_after
    ∙ ap (λ ws. done ++ flat_map (word_pieces room) ws) (sym first)
    ∙ kept

pub words_done : (done all : List PieceView) (room : ℕ) (rest : List ℕ) → length rest ≡ 0 → done ++ flat_map (word_pieces room) (words rest) ≡ all → done ≡ all
words_done done all room rest e kept =
    let nothing : rest ≡ [] = nil_from_length rest e in
    sym (append-nil done) ∙ ap (λ ws. done ++ flat_map (word_pieces room) ws) (sym (ap words nothing ∙ words_none)) ∙ kept

pub range_front : (xs : List ℕ) (n : ℕ) → slice_range xs 0 n ≡ take n xs
range_front xs n = let same : n - 0 ≡ n = omega arith in ap (λ k. take k xs) same

pub extent_none : extent [] ≡ 0
unfolding extent
extent_none = refl

pub extent_push : (ps : List PieceView) (p : PieceView) → extent (ps ++ p ∷ []) ≡ extent ps + (p.width + p.gap)
unfolding extent
extent_push ps p = sum_by_push (λ q. q.width + q.gap) ps p
