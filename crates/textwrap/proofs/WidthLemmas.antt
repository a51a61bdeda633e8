-- The width of a text, character by character.
use Rattle.std.proofs.Common.{◌≡◌, ℕ, ◌+◌, ◌*◌, ◌<◌, ◌≤◌, false, List, [], ◌∷◌, ◌++◌, length, take, drop, fold, refl, sym, ap, subst, ◌∙◌, arith, encode_utf8, append-nil, length-append}
use Rattle.std.specs.Str.{chars, IsUtf8, IsCharBoundary}
use Rattle.std.specs.Option.{unwrap_or}
use Rattle.std.specs.Char.{len_utf8}
use Rattle.std.proofs.lemmas.Bool.Decides.{nat_tests}
use Rattle.std.proofs.lemmas.List.Sums.{fold-append}
use Rattle.std.proofs.lemmas.List.{take_at, drop_at}
use Rattle.std.proofs.lemmas.Str.{chars_past_char, length-encode, chars-append, chars-nil, IsUtf8-take, IsUtf8-past_char, IsCharBoundary-from_drop}
use Rattle.std.proofs.Math.Seq.{take-add}
use Rattle.unicode_width.specs.Width.{char_width}
use Rattle.unicode_width.proofs.Rules.{width_or_zero-le}
use Rattle.textwrap.specs.declared.pen.Escape.{Escape}
use Rattle.textwrap.specs.declared.pen.Escape.TheVariants.{Outside, Begun, Control, Command, Ending}
use Rattle.textwrap.specs.declared.pen.Pen.{Pen}
use Rattle.textwrap.specs.Width.{cells, moved, at_start, pen_behind}

pub narrow : (c : ℕ) → c < 128 → unwrap_or (char_width false c) 0 ≤ 1
unfolding char_width
narrow c lt = grind (arith, nat_tests)

pub outside_le : (c : ℕ) → unwrap_or (char_width false c) 0 ≤ 2 * length (encode_utf8 c)
outside_le c =
    let three : unwrap_or (char_width false c) 0 ≤ 3 = width_or_zero-le false c in
    let one = narrow c in
    rw length-encode (grind (arith, nat_tests))

-- no more than two cells for each byte
pub cells_le : (escape : Escape) (c : ℕ) → cells escape c ≤ 2 * length (encode_utf8 c)
cells_le Outside c = outside_le c
cells_le Begun c = omega arith
cells_le Control c = omega arith
cells_le Command c = omega arith
cells_le Ending c = omega arith

pub pen_behind_nil : pen_behind [] ≡ at_start
unfolding pen_behind
pen_behind_nil = ap (fold moved at_start) chars-nil

-- one character less to come
pub pen_step : (pen : Pen) (c : ℕ) (bytes rest : List ℕ) → IsUtf8 bytes → bytes ≡ encode_utf8 c ++ rest
    → fold moved (moved pen c) (chars rest) ≡ fold moved pen (chars bytes)
pen_step pen c bytes rest utf8 e = ap (fold moved pen) (sym (chars_past_char bytes rest c utf8 e))

pub room_step : (c : ℕ) (bytes rest : List ℕ) → bytes ≡ encode_utf8 c ++ rest → length bytes ≡ length (encode_utf8 c) + length rest
room_step c bytes rest e = omega (arith, simp length-append at (ap length e))

-- a first character is a text of its own
pub char_utf8 : (c : ℕ) (bytes rest : List ℕ) → IsUtf8 bytes → bytes ≡ encode_utf8 c ++ rest → IsUtf8 (encode_utf8 c)
char_utf8 c bytes rest utf8 e =
    let n = length (encode_utf8 c) in
    let after : drop n bytes ≡ rest = ap (λ l. drop n l) e ∙ drop_at (encode_utf8 c) rest n refl in
    let front : take n bytes ≡ encode_utf8 c = ap (λ l. take n l) e ∙ take_at (encode_utf8 c) rest n refl in
    let size = room_step c bytes rest e in
    let cut : IsCharBoundary bytes n = IsCharBoundary-from_drop bytes n (omega arith) (subst IsUtf8 (sym after) (IsUtf8-past_char bytes rest c utf8 e)) in
    subst IsUtf8 front (IsUtf8-take bytes n utf8 cut)

pub chars_one : (c : ℕ) → IsUtf8 (encode_utf8 c) → chars (encode_utf8 c) ≡ c ∷ []
chars_one c utf8 = chars_past_char (encode_utf8 c) [] c utf8 (sym (append-nil (encode_utf8 c))) ∙ ap (λ l. c ∷ l) chars-nil

-- a character more behind the pen
pub pen_behind_push : (front : List ℕ) (c : ℕ) → IsUtf8 front → IsUtf8 (encode_utf8 c) → pen_behind (front ++ encode_utf8 c) ≡ moved (pen_behind front) c
unfolding pen_behind
pen_behind_push front c utf8 one =
    let all : chars (front ++ encode_utf8 c) ≡ chars front ++ c ∷ [] = chars-append front (encode_utf8 c) utf8 ∙ ap (λ l. chars front ++ l) (chars_one c one) in
    ap (fold moved at_start) all ∙ fold-append moved at_start (chars front) (c ∷ [])

pub take_past : (text rest : List ℕ) (len c : ℕ) → drop len text ≡ encode_utf8 c ++ rest → take (len + len_utf8 c) text ≡ take len text ++ encode_utf8 c
take_past text rest len c e =
    take-add len (len_utf8 c) text ∙ ap (λ l. take len text ++ l) (ap (λ l. take (len_utf8 c) l) e ∙ take_at (encode_utf8 c) rest (len_utf8 c) (length-encode c))
