-- A text without LF that takes no more bytes than the room of its line, and does not end with a space, is one line.
use Rattle.std.proofs.Common.{◌≡◌, ℕ, ◌+◌, ◌-◌, ◌<◌, ◌≤◌, Bool, true, false, not, List, [], ◌∷◌, ◌++◌, length, eqb, ltb, leb, ◌&&◌, if◌then◌else◌, fold, refl, sym, ap, subst, ◌∙◌, arith, get_or, append_assoc, append-nil, length-append, encode_utf8, replicate, suc, ⊎_elim, All, eq-zero-or-pos}
use Rattle.std.specs.Str.{chars, IsUtf8, encode_utf8_all, all_scalars}
use Rattle.std.specs.Char.{len_utf8, IsScalar}
use Rattle.std.specs.Option.{unwrap_or}
use Rattle.std.specs.List.{flat_map, slice_index, slice_split}
use Rattle.std.proofs.lemmas.Bool.{and_parts, cases_lt}
use Rattle.std.proofs.lemmas.Bool.Decides.{nat_tests}
use Rattle.std.proofs.lemmas.Str.{length-encode, len_utf8_bounds, encodes-chars, scalars-chars, encode_ascii, inside_one, IsUtf8-append, IsUtf8-nil, IsUtf8-encode}
use Rattle.unicode_width.specs.Width.{char_width, single, of_kind, alone}
use Rattle.unicode_width.specs.Kind.{kind}
use Rattle.unicode_width.specs.declared.kind.Kind.{Kind}
use Rattle.unicode_width.specs.declared.kind.Kind.TheVariants as kinds
use Rattle.textwrap.specs.declared.pen.Escape.{Escape}
use Rattle.textwrap.specs.declared.pen.Escape.TheVariants.{Outside, Begun, Control, Command, Ending}
use Rattle.textwrap.specs.declared.pen.Pen.{Pen}
use Rattle.textwrap.specs.Width.{cells, moved, at_start, pen_behind, display_width}
use Rattle.std.proofs.lemmas.List.{length-replicate, replicate-append-replicate, get_or-append-add, get_or-replicate}
use Rattle.std.proofs.lemmas.List.Splits.{slice_split_none}
use Rattle.textwrap.specs.declared.lines.Line.{Line}
use Rattle.textwrap.specs.Cuts.{before_first, cuts_behind, cuts}
use Rattle.textwrap.specs.Pieces.{PieceView, extent, with_gap, word_pieces, pieces}
use Rattle.textwrap.specs.Layout.{appended, line_behind, continued, laid_out}
use Rattle.textwrap.specs.OneLine.{FitsOnLine}
use Rattle.textwrap.specs.Filled.{spaces, room, joined_by_breaks, filled_part, filled_parts, filled}
use Rattle.textwrap.proofs.CutsLemmas.{nothing_before}
use Rattle.textwrap.proofs.PiecesLemmas.{extent_none}
use Rattle.textwrap.proofs.LayoutLemmas.{extent_cons}
use Rattle.textwrap.proofs.FilledLemmas.{part_text, parts_text}
use Rattle.textwrap.specs.Words.{Word, is_letter_or_digit, is_inner_hyphen, with_space, with_byte, words_behind, words}
use Rattle.textwrap.proofs.WidthLemmas.{narrow}
use Rattle.textwrap.proofs.WordsLemmas.{fronted, fronted_first, fronted_all, not_none}
use Rattle.unicode_width.proofs.Rules.{width_or_zero-le}

-- no character takes more cells than bytes

single_two : (c : ℕ) → c < 2048 → (single false c).0 ≤ 2
single_two c lt = grind (arith, nat_tests)

kind_two : (c : ℕ) (k : Kind) → c < 2048 → (of_kind false c k).0 ≤ 2
kind_two c kinds.Zero lt = omega arith
kind_two c kinds.Narrow lt = omega arith
kind_two c kinds.Wide lt = omega arith
kind_two c kinds.Ambiguous lt = grind arith
kind_two c kinds.Alef lt = omega arith
kind_two c kinds.KhmerLetter lt = omega arith
kind_two c kinds.TifinaghConsonant lt = omega arith
kind_two c kinds.LisuTone lt = omega arith
kind_two c kinds.RegionalIndicator lt = omega arith
kind_two c kinds.EmojiModifier lt = omega arith
kind_two c kinds.Emoji lt = omega arith
kind_two c kinds.Single lt = single_two c lt

two : (c : ℕ) → c < 2048 → unwrap_or (char_width false c) 0 ≤ 2
unfolding char_width alone
two c lt = grind (arith, kind_two c (kind c) lt)

outside_fits : (c : ℕ) → unwrap_or (char_width false c) 0 ≤ length (encode_utf8 c)
outside_fits c =
    let at_most : unwrap_or (char_width false c) 0 ≤ 3 = width_or_zero-le false c in
    let one = narrow c in
    let pair = two c in
    rw length-encode (grind (arith, nat_tests))

pub cells_fit : (escape : Escape) (c : ℕ) → cells escape c ≤ length (encode_utf8 c)
cells_fit Outside c = outside_fits c
cells_fit Begun c = omega arith
cells_fit Control c = omega arith
cells_fit Command c = omega arith
cells_fit Ending c = omega arith

pen_fits : (pen : Pen) (cs : List ℕ) → (fold moved pen cs).width ≤ pen.width + length (encode_utf8_all cs)
pen_fits pen [] = omega arith
pen_fits pen (c ∷ cs) = omega (arith, pen_fits (moved pen c) cs, cells_fit pen.escape c, length-append (encode_utf8 c) (encode_utf8_all cs))

-- a text takes no more cells than bytes
pub width_fits : (text : List ℕ) → IsUtf8 text → display_width text ≤ length text
unfolding display_width pen_behind
width_fits text utf8 = omega (arith, pen_fits at_start (chars text), ap length (encodes-chars text utf8))

-- bytes that are no ASCII begin no word's end
abbrev AreHigh : List ℕ → Type 0
AreHigh bs = (k : ℕ) → k < length bs → 128 ≤ get_or bs k 0

high_plain : (letter : Bool) (b next : ℕ) → 128 ≤ b → is_inner_hyphen letter b next ≡ false
high_plain letter b next high = grind (arith, nat_tests)

no_space : (b : ℕ) → 128 ≤ b → eqb b 0x20 ≡ false
no_space b high = grind (arith, nat_tests)

no_letter : (b : ℕ) → 128 ≤ b → is_letter_or_digit b ≡ false
unfolding is_letter_or_digit
no_letter b high = grind (arith, nat_tests)

abbrev a_word : List ℕ → ℕ → Word
a_word text gap = record { text = text; gap = gap }

high_first : (letter : Bool) (b : ℕ) (rest : List ℕ) → 128 ≤ b → words_behind letter (b ∷ rest) ≡ with_byte b (words_behind false rest)
high_first letter b rest high =
    ap (λ (v : Bool). if v then with_space (words_behind false rest) else if is_inner_hyphen letter b (slice_index rest 0) then a_word (b ∷ []) 0 ∷ words_behind false rest else with_byte b (words_behind (is_letter_or_digit b) rest)) (no_space b high)
    ∙ ap (λ (v : Bool). if v then a_word (b ∷ []) 0 ∷ words_behind false rest else with_byte b (words_behind (is_letter_or_digit b) rest)) (high_plain letter b (slice_index rest 0) high)
    ∙ ap (λ (v : Bool). with_byte b (words_behind v rest)) (no_letter b high)

high_run : (letter : Bool) (b : ℕ) (bs rest : List ℕ) → AreHigh (b ∷ bs) → words_behind letter ((b ∷ bs) ++ rest) ≡ fronted (b ∷ bs) (words_behind false rest)
unfolding fronted
high_run letter b [] rest high = high_first letter b rest (high 0 (omega arith))
high_run letter b (x ∷ bs) rest high =
    high_first letter b ((x ∷ bs) ++ rest) (high 0 (omega arith))
    ∙ ap (with_byte b) (high_run false x bs rest (λ k lt. high (suc k) (omega arith)))

-- the texts of words are texts
abbrev AreTexts : List Word → Type 0
AreTexts [] = Unit {0}
AreTexts (w ∷ ws) = IsUtf8 w.text × AreTexts ws

space_texts : (ws : List Word) → AreTexts ws → AreTexts (with_space ws)
space_texts [] all = (IsUtf8-nil, tt)
space_texts (w ∷ ws) all =
    elim (eqb (length w.text) 0) as (λ (v : Bool). AreTexts (if v then a_word [] (w.gap + 1) ∷ ws else a_word [] 1 ∷ w ∷ ws)) [
      | true ↦ (IsUtf8-nil, all.1)
      | false ↦ (IsUtf8-nil, all)
    ]

byte_texts : (b : ℕ) (ws : List Word) → IsUtf8 (b ∷ []) → AreTexts ws → AreTexts (with_byte b ws)
byte_texts b [] one all = (one, tt)
byte_texts b (w ∷ ws) one all = (IsUtf8-append (b ∷ []) w.text one all.0, all.1)

front_texts : (b : ℕ) (bs : List ℕ) (ws : List Word) → IsUtf8 (b ∷ bs) → AreTexts ws → AreTexts (fronted (b ∷ bs) ws)
front_texts b bs [] one all = subst AreTexts (sym (fronted_all b bs)) (one, tt)
front_texts b bs (w ∷ ws) one all = subst AreTexts (sym (fronted_first (b ∷ bs) w.text w.gap ws)) (IsUtf8-append (b ∷ bs) w.text one all.0, all.1)

ascii_texts : (letter : Bool) (b : ℕ) (rest : List ℕ) → IsUtf8 (b ∷ []) → ((l : Bool) → AreTexts (words_behind l rest)) → AreTexts (words_behind letter (b ∷ rest))
ascii_texts letter b rest one more =
    elim (eqb b 0x20) as (λ (v : Bool). AreTexts (if v then with_space (words_behind false rest) else if is_inner_hyphen letter b (slice_index rest 0) then a_word (b ∷ []) 0 ∷ words_behind false rest else with_byte b (words_behind (is_letter_or_digit b) rest))) [
      | true ↦ space_texts (words_behind false rest) (more false)
      | false ↦
          elim (is_inner_hyphen letter b (slice_index rest 0)) as (λ (v : Bool). AreTexts (if v then a_word (b ∷ []) 0 ∷ words_behind false rest else with_byte b (words_behind (is_letter_or_digit b) rest))) [
            | true ↦ (one, more false)
            | false ↦ byte_texts b (words_behind (is_letter_or_digit b) rest) one (more (is_letter_or_digit b))
          ]
    ]

high_texts : (letter : Bool) (bs rest : List ℕ) → 1 ≤ length bs → AreHigh bs → IsUtf8 bs → ((l : Bool) → AreTexts (words_behind l rest)) → AreTexts (words_behind letter (bs ++ rest))
high_texts letter [] rest some high one more = absurd (omega arith)
high_texts letter (b ∷ bs) rest some high one more =
    subst AreTexts (sym (high_run letter b bs rest high)) (front_texts b bs (words_behind false rest) one (more false))

-- the bytes of a character that is no ASCII
high_bytes : (c : ℕ) → 128 ≤ c → AreHigh (encode_utf8 c)
high_bytes c high k lt =
    ⊎_elim (λ low. absurd (omega (arith, inside_one c [] (encode_utf8 c) k (sym (append-nil (encode_utf8 c))) lt low)))
    (λ up. up)
    (cases_lt (get_or (encode_utf8 c) k 0) 128)

words_texts : (letter : Bool) (cs : List ℕ) → all_scalars cs ≡ true → AreTexts (words_behind letter (encode_utf8_all cs))
words_texts letter [] valid = tt
words_texts letter (c ∷ cs) valid =
    let both = and_parts _ _ valid in
    let one : IsUtf8 (encode_utf8 c) = IsUtf8-encode c both.0 in
    let more : (l : Bool) → AreTexts (words_behind l (encode_utf8_all cs)) = λ l. words_texts l cs both.1 in
    ⊎_elim (λ low.
    let bytes : encode_utf8 c ≡ c ∷ [] = encode_ascii c low in
    subst (λ l. AreTexts (words_behind letter (l ++ encode_utf8_all cs))) (sym bytes) (ascii_texts letter c (encode_utf8_all cs) (subst IsUtf8 bytes one) more))
    (λ up. high_texts letter (encode_utf8 c) (encode_utf8_all cs) (omega (arith, length-encode c, len_utf8_bounds c)) (high_bytes c up) one more)
    (cases_lt c 128)

pub words_are_texts : (text : List ℕ) → IsUtf8 text → AreTexts (words text)
unfolding words
words_are_texts text utf8 = subst (λ t. AreTexts (words_behind false t)) utf8.1.1 (words_texts false utf8.0 utf8.1.0)

-- words, and the spaces behind each, are the text
abbrev told : List Word → List ℕ
told [] = []
told (w ∷ ws) = w.text ++ (spaces w.gap ++ told ws)

one_space_more : (gap : ℕ) (more : List ℕ) → spaces (gap + 1) ++ more ≡ 0x20 ∷ (spaces gap ++ more)
one_space_more gap more =
    let order : gap + 1 ≡ 1 + gap = omega arith in
    ap (λ n. spaces n ++ more) order ∙ ap (λ l. l ++ more) (sym (replicate-append-replicate 1 gap 0x20))

space_told : (text : List ℕ) (gap : ℕ) (ws : List Word) → told (with_space (a_word text gap ∷ ws)) ≡ 0x20 ∷ told (a_word text gap ∷ ws)
space_told [] gap ws = one_space_more gap (told ws)
space_told (t ∷ ts) gap ws =
    ap (λ (v : Bool). told (if v then a_word [] (gap + 1) ∷ ws else a_word [] 1 ∷ a_word (t ∷ ts) gap ∷ ws)) (not_none (length ts))

with_space_told : (ws : List Word) → told (with_space ws) ≡ 0x20 ∷ told ws
with_space_told [] = refl
with_space_told (w ∷ ws) = space_told w.text w.gap ws

with_byte_told : (b : ℕ) (ws : List Word) → told (with_byte b ws) ≡ b ∷ told ws
with_byte_told b [] = refl
with_byte_told b (w ∷ ws) = refl

words_told : (letter : Bool) (bytes : List ℕ) → told (words_behind letter bytes) ≡ bytes
words_told letter [] = refl
words_told letter (b ∷ rest) =
    elim (eqb b 0x20) as (λ (v : Bool). eqb b 0x20 ≡ v
    → told (if v then with_space (words_behind false rest) else if is_inner_hyphen letter b (slice_index rest 0) then a_word (b ∷ []) 0 ∷ words_behind false rest else with_byte b (words_behind (is_letter_or_digit b) rest)) ≡ b ∷ rest) [
      | true ↦ λ e.
          let same : 0x20 ≡ b = grind (arith, nat_tests) in
          with_space_told (words_behind false rest) ∙ ap (λ l. 0x20 ∷ l) (words_told false rest) ∙ ap (λ x. x ∷ rest) same
      | false ↦ λ e.
          elim (is_inner_hyphen letter b (slice_index rest 0)) as (λ (v : Bool). told (if v then a_word (b ∷ []) 0 ∷ words_behind false rest else with_byte b (words_behind (is_letter_or_digit b) rest)) ≡ b ∷ rest) [
            | true ↦ ap (λ l. b ∷ l) (words_told false rest)
            | false ↦ with_byte_told b (words_behind (is_letter_or_digit b) rest) ∙ ap (λ l. b ∷ l) (words_told (is_letter_or_digit b) rest)
          ]
    ] refl

-- the texts that a word is cut into
abbrev AreUtf8 : List (List ℕ) → Type 0
AreUtf8 [] = Unit {0}
AreUtf8 (t ∷ ts) = IsUtf8 t × AreUtf8 ts

abbrev joint : List (List ℕ) → List ℕ
joint [] = []
joint (t ∷ ts) = t ++ joint ts

before_utf8 : (bytes : List ℕ) (ts : List (List ℕ)) → IsUtf8 bytes → AreUtf8 ts → AreUtf8 (before_first bytes ts)
before_utf8 bytes [] one all = (one, tt)
before_utf8 bytes (t ∷ ts) one all = (IsUtf8-append bytes t one all.0, all.1)

before_joint : (bytes : List ℕ) (ts : List (List ℕ)) → joint (before_first bytes ts) ≡ bytes ++ joint ts
before_joint bytes [] = refl
before_joint bytes (t ∷ ts) = append_assoc bytes t (joint ts)

cuts_utf8 : (room : ℕ) (some : Bool) (pen : Pen) (cs : List ℕ) → all_scalars cs ≡ true → AreUtf8 (cuts_behind room some pen cs)
cuts_utf8 room some pen [] valid = (IsUtf8-nil, tt)
cuts_utf8 room some pen (c ∷ cs) valid =
    let both = and_parts _ _ valid in
    let one : IsUtf8 (encode_utf8 c) = IsUtf8-encode c both.0 in
    elim (some && ltb room (moved pen c).width) as (λ (v : Bool). AreUtf8 (if v then [] ∷ before_first (encode_utf8 c) (cuts_behind room true (moved at_start c) cs) else before_first (encode_utf8 c) (cuts_behind room true (moved pen c) cs))) [
      | true ↦ (IsUtf8-nil, before_utf8 (encode_utf8 c) (cuts_behind room true (moved at_start c) cs) one (cuts_utf8 room true (moved at_start c) cs both.1))
      | false ↦ before_utf8 (encode_utf8 c) (cuts_behind room true (moved pen c) cs) one (cuts_utf8 room true (moved pen c) cs both.1)
    ]

cuts_joint : (room : ℕ) (some : Bool) (pen : Pen) (cs : List ℕ) → joint (cuts_behind room some pen cs) ≡ encode_utf8_all cs
cuts_joint room some pen [] = refl
cuts_joint room some pen (c ∷ cs) =
    elim (some && ltb room (moved pen c).width) as (λ (v : Bool). joint (if v then [] ∷ before_first (encode_utf8 c) (cuts_behind room true (moved at_start c) cs) else before_first (encode_utf8 c) (cuts_behind room true (moved pen c) cs)) ≡ encode_utf8_all (c ∷ cs)) [
      | true ↦ before_joint (encode_utf8 c) (cuts_behind room true (moved at_start c) cs) ∙ ap (λ l. encode_utf8 c ++ l) (cuts_joint room true (moved at_start c) cs)
      | false ↦ before_joint (encode_utf8 c) (cuts_behind room true (moved pen c) cs) ∙ ap (λ l. encode_utf8 c ++ l) (cuts_joint room true (moved pen c) cs)
    ]

-- pieces, and the spaces behind each
abbrev spread : List PieceView → List ℕ
spread [] = []
spread (p ∷ ps) = p.text ++ (spaces p.gap ++ spread ps)

abbrev AreNarrow : List PieceView → Type 0
AreNarrow [] = Unit {0}
AreNarrow (p ∷ ps) = (p.width ≤ length p.text) × AreNarrow ps

spread-append : (ps qs : List PieceView) → spread (ps ++ qs) ≡ spread ps ++ spread qs
spread-append [] qs = refl
spread-append (p ∷ ps) qs =
    ap (λ l. p.text ++ (spaces p.gap ++ l)) (spread-append ps qs)
    ∙ ap (λ l. p.text ++ l) (sym (append_assoc (spaces p.gap) (spread ps) (spread qs)))
    ∙ sym (append_assoc p.text (spaces p.gap ++ spread ps) (spread qs))

narrow-append : (ps qs : List PieceView) → AreNarrow ps → AreNarrow qs → AreNarrow (ps ++ qs)
narrow-append [] qs one two = two
narrow-append (p ∷ ps) qs one two = (one.0, narrow-append ps qs one.1 two)

gap_spread : (gap : ℕ) (t : List ℕ) (ts : List (List ℕ)) → spread (with_gap gap (t ∷ ts)) ≡ joint (t ∷ ts) ++ spaces gap
gap_spread gap t [] = ap (λ l. t ++ l) (append-nil (spaces gap)) ∙ ap (λ l. l ++ spaces gap) (sym (append-nil t))
gap_spread gap t (u ∷ ts) = ap (λ l. t ++ l) (gap_spread gap u ts) ∙ sym (append_assoc t (joint (u ∷ ts)) (spaces gap))

gap_narrow : (gap : ℕ) (ts : List (List ℕ)) → AreUtf8 ts → AreNarrow (with_gap gap ts)
gap_narrow gap [] all = tt
gap_narrow gap (t ∷ []) all = (width_fits t all.0, tt)
gap_narrow gap (t ∷ u ∷ ts) all = (width_fits t all.0, gap_narrow gap (u ∷ ts) all.1)

before_spread : (gap : ℕ) (ts : List (List ℕ)) → spread (with_gap gap (before_first [] ts)) ≡ joint (before_first [] ts) ++ spaces gap
before_spread gap [] = gap_spread gap [] []
before_spread gap (t ∷ ts) = gap_spread gap t ts

word_spread : (room : ℕ) (w : Word) → IsUtf8 w.text → spread (word_pieces room w) ≡ w.text ++ spaces w.gap
unfolding word_pieces cuts
word_spread room w utf8 =
    let some = nothing_before room false at_start (chars w.text) in
    ap (λ ts. spread (with_gap w.gap ts)) (sym some)
    ∙ before_spread w.gap (cuts_behind room false at_start (chars w.text))
    ∙ ap (λ ts. joint ts ++ spaces w.gap) some
    ∙ ap (λ l. l ++ spaces w.gap) (cuts_joint room false at_start (chars w.text) ∙ encodes-chars w.text utf8)

word_narrow : (room : ℕ) (w : Word) → IsUtf8 w.text → AreNarrow (word_pieces room w)
unfolding word_pieces cuts
word_narrow room w utf8 = gap_narrow w.gap (cuts_behind room false at_start (chars w.text)) (cuts_utf8 room false at_start (chars w.text) (scalars-chars w.text utf8))

all_spread : (room : ℕ) (ws : List Word) → AreTexts ws → spread (flat_map (word_pieces room) ws) ≡ told ws
all_spread room [] all = refl
all_spread room (w ∷ ws) all =
    spread-append (word_pieces room w) (flat_map (word_pieces room) ws)
    ∙ ap (λ l. l ++ spread (flat_map (word_pieces room) ws)) (word_spread room w all.0)
    ∙ ap (λ l. (w.text ++ spaces w.gap) ++ l) (all_spread room ws all.1)
    ∙ append_assoc w.text (spaces w.gap) (told ws)

all_narrow : (room : ℕ) (ws : List Word) → AreTexts ws → AreNarrow (flat_map (word_pieces room) ws)
all_narrow room [] all = tt
all_narrow room (w ∷ ws) all = narrow-append (word_pieces room w) (flat_map (word_pieces room) ws) (word_narrow room w all.0) (all_narrow room ws all.1)

-- the pieces of a text are the text, and take no more cells and spaces than it has bytes
pub pieces_spread : (room : ℕ) (text : List ℕ) → IsUtf8 text → spread (pieces room text) ≡ text
unfolding pieces words
pieces_spread room text utf8 = all_spread room (words text) (words_are_texts text utf8) ∙ words_told false text

pieces_narrow : (room : ℕ) (text : List ℕ) → IsUtf8 text → AreNarrow (pieces room text)
unfolding pieces
pieces_narrow room text utf8 = all_narrow room (words text) (words_are_texts text utf8)

extent_spread : (ps : List PieceView) → AreNarrow ps → extent ps ≤ length (spread ps)
extent_spread [] all = omega (arith, extent_none)
extent_spread (p ∷ ps) all =
    omega (arith, extent_cons p ps, extent_spread ps all.1, all.0, length-append p.text (spaces p.gap ++ spread ps), length-append (spaces p.gap) (spread ps), length-replicate {A = ℕ} p.gap 0x20)

-- pieces that all fit the line
abbrev end_gap : ℕ → List PieceView → ℕ
end_gap gap [] = gap
end_gap gap (p ∷ ps) = end_gap p.gap ps

all_fit : (indent : List ℕ) (later : ℕ) (line : Line) (ps : List PieceView) → line.used + line.gap + extent ps ≤ line.room
    → continued indent later line ps ++ spaces (end_gap line.gap ps) ≡ spaces line.gap ++ spread ps
unfolding continued appended line_behind
all_fit indent later line [] fits = sym (append-nil (spaces line.gap))
all_fit indent later line (p ∷ ps) fits =
    let size = extent_cons p ps in
    let used : ℕ = line.used + line.gap + p.width in
    let same : Line = record { room = line.room; used = used; gap = p.gap } in
    let next : Line = record { room = later; used = p.width; gap = p.gap } in
    let joins : leb used line.room ≡ true = grind (arith, nat_tests, size, fits) in
    ap (λ (v : Bool). ((if v then spaces line.gap ++ p.text else encode_utf8 0x0A ++ indent ++ p.text) ++ continued indent later (if v then same else next) ps) ++ spaces (end_gap p.gap ps)) joins
    ∙ append_assoc (spaces line.gap ++ p.text) (continued indent later same ps) (spaces (end_gap p.gap ps))
    ∙ ap (λ l. (spaces line.gap ++ p.text) ++ l) (all_fit indent later same ps (omega (arith, size, fits)))
    ∙ append_assoc (spaces line.gap) p.text (spaces p.gap ++ spread ps)

abbrev last_gap : List PieceView → ℕ
last_gap ps = end_gap 0 ps

laid_spread : (indent : List ℕ) (first later : ℕ) (ps : List PieceView) → extent ps ≤ first → laid_out indent first later ps ++ spaces (last_gap ps) ≡ spread ps
unfolding laid_out
laid_spread indent first later [] fits = refl
laid_spread indent first later (p ∷ ps) fits =
    let line : Line = record { room = first; used = p.width; gap = p.gap } in
    append_assoc p.text (continued indent later line ps) (spaces (end_gap p.gap ps))
    ∙ ap (λ l. p.text ++ l) (all_fit indent later line ps (omega (arith, extent_cons p ps, fits)))

-- a text that ends in spaces has a space last
ends_in_space : (front text : List ℕ) (gap : ℕ) → front ++ spaces gap ≡ text → 0 < gap → get_or text (length text - 1) 0 ≡ 0x20
ends_in_space front text gap e some =
    let size : length text ≡ length front + gap = omega (arith, sym (ap length e), length-append front (spaces gap), length-replicate {A = ℕ} gap 0x20) in
    let place : length text - 1 ≡ length front + (gap - 1) = omega (arith, size, some) in
    ap (λ k. get_or text k 0) place
    ∙ ap (λ l. get_or l (length front + (gap - 1)) 0) (sym e)
    ∙ get_or-append-add front (spaces gap) (gap - 1) 0
    ∙ get_or-replicate gap (gap - 1) 0x20 0 (omega (arith, some))

laid_text : (indent : List ℕ) (first later gap : ℕ) (text : List ℕ) (laid : List ℕ) → laid ++ spaces gap ≡ text → eqb (get_or text (length text - 1) 0) 0x20 ≡ false → laid ≡ text
laid_text indent first later gap text laid e closed =
    ⊎_elim (λ none. sym (append-nil laid) ∙ ap (λ n. laid ++ spaces n) (sym none) ∙ e)
    (λ some. let last = ends_in_space laid text gap e some in absurd (grind (arith, nat_tests)))
    (eq-zero-or-pos gap)

-- a text that fits on the line
pub one_part : (width : ℕ) (first later text : List ℕ) → IsUtf8 text → length text ≤ room width first → eqb (get_or text (length text - 1) 0) 0x20 ≡ false
    → joined_by_breaks (filled_part width first later text) ≡ first ++ text
one_part width first later text utf8 fits closed =
    let list : List PieceView = pieces (room width later) text in
    let same = pieces_spread (room width later) text utf8 in
    let size : extent list ≤ length text = omega (arith, extent_spread list (pieces_narrow (room width later) text utf8), ap length same) in
    let laid = laid_spread later (room width first) (room width later) list (omega (arith, size, fits)) in
    sym (part_text width first later text)
    ∙ ap (λ l. first ++ l) (laid_text later (room width first) (room width later) (last_gap list) text (laid_out later (room width first) (room width later) list) (laid ∙ same) closed)

pub one_line : (width : ℕ) (first later text : List ℕ) → IsUtf8 text → length text ≤ room width first → All (λ byte. eqb byte 0x0A ≡ false) text → eqb (get_or text (length text - 1) 0) 0x20 ≡ false
    → filled width first later text ≡ first ++ text
unfolding filled
one_line width first later text utf8 fits whole closed =
    ap (λ ps. joined_by_breaks (filled_parts width first later ps)) (slice_split_none (λ byte. eqb byte 0x0A) text whole)
    ∙ parts_text width first later text []
    ∙ append-nil (joined_by_breaks (filled_part width first later text))
    ∙ one_part width first later text utf8 fits closed

-- the same, where what is known of the text stands in a record, and the indent is measured by its bytes
pub fits_is_line : (width : ℕ) (first later text : List ℕ) → IsUtf8 first → IsUtf8 text → FitsOnLine (width - length first) text → filled width first later text ≡ first ++ text
unfolding room
fits_is_line width first later text utf8_first utf8 fit =
    one_line width first later text utf8 (omega (arith, fit.fits, width_fits first utf8_first)) fit.whole fit.closed

pub fits_line : (width least : ℕ) (first later text : List ℕ) → IsUtf8 text → least ≤ room width first → FitsOnLine least text → filled width first later text ≡ first ++ text
fits_line width least first later text utf8 le fit =
    one_line width first later text utf8 (omega (arith, fit.fits, le)) fit.whole fit.closed

-- and behind what was written before
pub line_behind_text : (done before out : List ℕ) (width least : ℕ) (first later text : List ℕ) → IsUtf8 text → least ≤ room width first → FitsOnLine least text
    → before ≡ done ++ first → out ≡ before ++ text → out ≡ done ++ filled width first later text
line_behind_text done before out width least first later text utf8 le fit is_before is_out =
    is_out ∙ ap (λ l. l ++ text) is_before ∙ append_assoc done first text ∙ ap (λ l. done ++ l) (sym (fits_line width least first later text utf8 le fit))
