-- A text cut by characters, from its front.
use Rattle.std.proofs.Common.{◌≡◌, ℕ, ◌+◌, ◌≤◌, Bool, true, false, List, [], ◌∷◌, ◌++◌, length, take, drop, eqb, ltb, ◌&&◌, if◌then◌else◌, refl, sym, ap, ◌∙◌, arith, encode_utf8, append_assoc, append-nil}
use Rattle.std.specs.Char.{len_utf8}
use Rattle.std.specs.Str.{chars, IsUtf8}
use Rattle.std.proofs.lemmas.Bool.Decides.{nat_tests}
use Rattle.std.proofs.lemmas.List.{length-drop, take_all}
use Rattle.std.proofs.lemmas.Str.{chars_past_char, chars-nil, len_utf8_bounds, length-encode}
use Rattle.textwrap.specs.declared.pen.Pen.{Pen}
use Rattle.textwrap.specs.Width.{moved, at_start}
use Rattle.textwrap.specs.Cuts.{before_first, cuts_behind, cuts}
use Rattle.textwrap.proofs.WidthLemmas.{take_past, room_step}

before_nil : (bytes : List ℕ) (texts : List (List ℕ)) → before_first [] (before_first bytes texts) ≡ before_first bytes texts
before_nil bytes [] = refl
before_nil bytes (t ∷ ts) = refl

nothing_before_either : (b : Bool) (bytes : List ℕ) (xs ys : List (List ℕ))
    → before_first [] (if b then [] ∷ xs else before_first bytes ys) ≡ (if b then [] ∷ xs else before_first bytes ys)
nothing_before_either true bytes xs ys = refl
nothing_before_either false bytes xs ys = before_nil bytes ys

-- there is a first text always
pub nothing_before : (room : ℕ) (some : Bool) (pen : Pen) (cs : List ℕ) → before_first [] (cuts_behind room some pen cs) ≡ cuts_behind room some pen cs
nothing_before room some pen [] = refl
nothing_before room some pen (c ∷ cs) =
    nothing_before_either (some && ltb room (moved pen c).width) (encode_utf8 c) (before_first (encode_utf8 c) (cuts_behind room true (moved at_start c) cs)) (cuts_behind room true (moved pen c) cs)

pub before_before : (xs ys : List ℕ) (texts : List (List ℕ)) → before_first xs (before_first ys texts) ≡ before_first (xs ++ ys) texts
before_before xs ys [] = refl
before_before xs ys (t ∷ ts) = ap (λ l. l ∷ ts) (sym (append_assoc xs ys t))

fits : (room : ℕ) (some : Bool) (pen : Pen) (c : ℕ) (cs front : List ℕ) → (some && ltb room (moved pen c).width) ≡ false
    → before_first (front ++ encode_utf8 c) (cuts_behind room true (moved pen c) cs) ≡ before_first front (cuts_behind room some pen (c ∷ cs))
fits room some pen c cs front e =
    sym (before_before front (encode_utf8 c) (cuts_behind room true (moved pen c) cs))
    ∙ ap (λ (b : Bool). before_first front (if b then [] ∷ before_first (encode_utf8 c) (cuts_behind room true (moved at_start c) cs) else before_first (encode_utf8 c) (cuts_behind room true (moved pen c) cs))) (sym e)

over : (room : ℕ) (some : Bool) (pen : Pen) (c : ℕ) (cs front : List ℕ) → (some && ltb room (moved pen c).width) ≡ true
    → before_first front (cuts_behind room some pen (c ∷ cs)) ≡ front ∷ cuts_behind room false at_start (c ∷ cs)
over room some pen c cs front e =
    ap (λ (b : Bool). before_first front (if b then [] ∷ before_first (encode_utf8 c) (cuts_behind room true (moved at_start c) cs) else before_first (encode_utf8 c) (cuts_behind room true (moved pen c) cs))) e
    ∙ ap (λ l. l ∷ cuts_behind room false at_start (c ∷ cs)) (append-nil front)

-- a character that fits, or the first
pub cut_step : (room : ℕ) (pen : Pen) (text rest : List ℕ) (len c : ℕ) → IsUtf8 (drop len text) → drop len text ≡ encode_utf8 c ++ rest
    → (ltb 0 len && ltb room (moved pen c).width) ≡ false
    → before_first (take (len + len_utf8 c) text) (cuts_behind room (ltb 0 (len + len_utf8 c)) (moved pen c) (chars rest))
    ≡ before_first (take len text) (cuts_behind room (ltb 0 len) pen (chars (drop len text)))
cut_step room pen text rest len c utf8 e test =
    let some : ltb 0 (len + len_utf8 c) ≡ true = grind (arith, nat_tests, len_utf8_bounds c) in
    ap (λ (b : Bool). before_first (take (len + len_utf8 c) text) (cuts_behind room b (moved pen c) (chars rest))) some
    ∙ ap (λ l. before_first l (cuts_behind room true (moved pen c) (chars rest))) (take_past text rest len c e)
    ∙ fits room (ltb 0 len) pen c (chars rest) (take len text) test
    ∙ ap (λ l. before_first (take len text) (cuts_behind room (ltb 0 len) pen l)) (sym (chars_past_char (drop len text) rest c utf8 e))

-- what is left when the front is cut
abbrev pub is_cut_at : ℕ → List ℕ → ℕ → List (List ℕ)
is_cut_at room text len = if eqb len (length text) then text ∷ [] else take len text ∷ cuts room (drop len text)

pub cut_here : (room : ℕ) (pen : Pen) (text rest : List ℕ) (len c : ℕ) → IsUtf8 (drop len text) → drop len text ≡ encode_utf8 c ++ rest
    → (ltb 0 len && ltb room (moved pen c).width) ≡ true
    → before_first (take len text) (cuts_behind room (ltb 0 len) pen (chars (drop len text))) ≡ cuts room text
    → cuts room text ≡ is_cut_at room text len
unfolding cuts
cut_here room pen text rest len c utf8 e test ahead =
    let size : length (drop len text) ≡ length (encode_utf8 c) + length rest = room_step c (drop len text) rest e in
    let some = len_utf8_bounds c in
    let more : eqb len (length text) ≡ false = grind (arith, nat_tests, length-drop len text, length-encode c) in
    let come = chars_past_char (drop len text) rest c utf8 e in
    sym ahead
    ∙ ap (λ l. before_first (take len text) (cuts_behind room (ltb 0 len) pen l)) come
    ∙ over room (ltb 0 len) pen c (chars rest) (take len text) test
    ∙ ap (λ l. take len text ∷ cuts_behind room false at_start l) (sym come)
    ∙ ap (λ (b : Bool). if b then text ∷ [] else take len text ∷ cuts room (drop len text)) (sym more)

pub cut_end : (room : ℕ) (pen : Pen) (text : List ℕ) (len : ℕ) → len ≤ length text → drop len text ≡ []
    → before_first (take len text) (cuts_behind room (ltb 0 len) pen (chars (drop len text))) ≡ cuts room text
    → cuts room text ≡ is_cut_at room text len
cut_end room pen text len within e ahead =
    let size : length (drop len text) ≡ 0 = ap length e in
    let all : eqb len (length text) ≡ true = grind (arith, nat_tests, length-drop len text) in
    let whole : take len text ≡ text = take_all len text (omega (arith, length-drop len text)) in
    sym ahead
    ∙ ap (λ l. before_first (take len text) (cuts_behind room (ltb 0 len) pen l)) (ap chars e ∙ chars-nil)
    ∙ ap (λ l. l ∷ []) (append-nil (take len text) ∙ whole)
    ∙ ap (λ (b : Bool). if b then text ∷ [] else take len text ∷ cuts room (drop len text)) (sym all)
