-- Columns of a row.
use Rattle.std.proofs.Common.{◌≡◌, ℕ, ◌+◌, ◌-◌, ◌<◌, ◌≤◌, List, [], ◌∷◌, ◌++◌, length, slice_index, slice_range, take, drop, inl, inr, refl, sym, ap, ◌∙◌, subst, arith}
use lib.Utf8.{encode}
use Rattle.std.specs.Char.{len_utf8}
use Rattle.std.specs.Str.{IsUtf8, IsCharBoundary, chars}
use Rattle.std.proofs.lemmas.Bool.{le-leb, lt-leb}
use Rattle.std.proofs.lemmas.Bool.Decides.{leb_tells}
use Rattle.std.proofs.lemmas.List.{length-take-le, length-drop, get_or-take, get_or-drop}
use Rattle.std.proofs.lemmas.Str.{chars_past_char, IsCharBoundary-from_rest}
use Rattle.sarif_log.specs.declared.log.ColumnKind.{ColumnKind}
use Rattle.sarif_spans.specs.Span.{fitting, width_of}
use Rattle.sarif_spans.specs.Rows.{IsRowOf}
use Rattle.sarif_spans.specs.declared.rows.Row.{Row}

-- a character that fits, and one that doesn't
pub fitting_go : (kind : ColumnKind) (left c w : ℕ) (bytes rest : List ℕ) → IsUtf8 bytes → bytes ≡ encode c ++ rest → w ≡ width_of kind c → w ≤ left
    → fitting kind left (chars bytes) ≡ len_utf8 c + fitting kind (left - w) (chars rest)
unfolding fitting
fitting_go kind left c w bytes rest utf8 is wide fits =
    ap (fitting kind left) (chars_past_char bytes rest c utf8 is)
    ∙ subst (λ k. fitting kind left (c ∷ chars rest) ≡ len_utf8 c + fitting kind (left - k) (chars rest)) (sym wide)
    (let fit : width_of kind c ≤ left = subst (λ k. k ≤ left) wide fits in rw (le-leb (width_of kind c) left fit) refl)

pub fitting_stop : (kind : ColumnKind) (left c w : ℕ) (bytes rest : List ℕ) → IsUtf8 bytes → bytes ≡ encode c ++ rest → w ≡ width_of kind c → left < w
    → fitting kind left (chars bytes) ≡ 0
unfolding fitting
fitting_stop kind left c w bytes rest utf8 is wide past =
    ap (fitting kind left) (chars_past_char bytes rest c utf8 is)
    ∙ (let over : left < width_of kind c = subst (λ k. left < k) wide past in rw (lt-leb (width_of kind c) left over) refl)

fitting_none : (kind : ColumnKind) (left : ℕ) → fitting kind left (chars []) ≡ 0
unfolding fitting chars
fitting_none kind left = refl

pub fitting_end : (kind : ColumnKind) (left : ℕ) (bytes : List ℕ) → length bytes ≡ 0 → fitting kind left (chars bytes) ≡ 0
fitting_end kind left [] none = fitting_none kind left
fitting_end kind left (b ∷ bytes) none = absurd (omega (arith, none))

-- a place in the beginning of a text is a place of the text
from_take : (text : List ℕ) (n j : ℕ) → IsCharBoundary text n → IsCharBoundary (take n text) j → IsCharBoundary text j
from_take text n j cut at =
    let size : length (take n text) ≡ n = length-take-le n text cut.0 in (
      omega (arith, at.0, size, cut.0),
      λ within high.
          elim (leb_tells n j) [
            | inl t ↦ (let same : j ≡ n = omega (arith, at.0, size, t.1) in subst (λ k. k < length text → 128 ≤ slice_index text k → 192 ≤ slice_index text k) (sym same) cut.1 within high)
            | inr t ↦ (let e : slice_index (take n text) j ≡ slice_index text j = get_or-take n text j 0 t.1 in subst (λ v. 192 ≤ v) e (at.1 (omega (arith, size, t.1)) (subst (λ v. 128 ≤ v) (sym e) high)))
          ],
    )

-- a place of the text behind another is one of the rest
to_drop : (text : List ℕ) (start j : ℕ) → IsCharBoundary text (start + j) → IsCharBoundary (drop start text) j
to_drop text start j at =
    let size : length (drop start text) ≡ length text - start = length-drop start text in
    let e : slice_index (drop start text) j ≡ slice_index text (start + j) = get_or-drop start text j 0 in (
      omega (arith, at.0, size),
      λ within high. subst (λ v. 192 ≤ v) (sym e) (at.1 (omega (arith, within, size)) (subst (λ v. 128 ≤ v) e high)),
    )

-- a place in a row is a place of the text
pub in_whole : (text : List ℕ) (row : Row) (j : ℕ) → IsRowOf text row → IsCharBoundary (slice_range text row.start row.end) j → IsCharBoundary text (row.start + j)
in_whole text row j is at =
    let whole : row.start + (row.end - row.start) ≡ row.end = omega (arith, is.ordered) in
    let cut : IsCharBoundary (drop row.start text) (row.end - row.start) = to_drop text row.start (row.end - row.start) (subst (IsCharBoundary text) (sym whole) is.end) in
    IsCharBoundary-from_rest text row.start j is.start.0 (from_take (drop row.start text) (row.end - row.start) j cut at)
