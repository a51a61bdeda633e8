-- Locations.
use Rattle.std.proofs.Common.{◌≡◌, ℕ, ◌≤◌, ◌<◌, Bool, true, false, List, [], ◌∷◌, length, take, get_or, refl, sym, subst, arith, zero, suc, ⊎_elim}
use Rattle.std.specs.Str.{IsUtf8, IsCharBoundary}
use Rattle.std.proofs.lemmas.Bool.{cases_lt, cases_eq}
use Rattle.std.proofs.lemmas.Bool.Decides.{nat_tests}
use Rattle.std.proofs.lemmas.Str.{IsUtf8-encode, IsCharBoundary-start, IsCharBoundary-end, IsCharBoundary-from_take, IsCharBoundary-after_ascii}
use lib.Utf8.{encode}
use Rattle.source_location.specs.Breaks.{LineBreak, breaks_of}
use Rattle.source_location.proofs.BreaksLemmas.{breaks_valid, break_ends_ascii}
use Rattle.source_location.proofs.RowsLemmas.{row_start_after, row_start_past}
use Rattle.source_location.specs.Locations.{begins_with_mark, counted_from}
pub use Rattle.oxc_windows.proofs.TextLemmas.{row_start_boundary}
use Rattle.oxc_windows.specs.Rows.{row_start}

-- what stands at the front of a text with a mark
pub mark_front : (text : List ℕ) → get_or text 0 0 ≡ 0xEF → get_or text 1 0 ≡ 0xBB → get_or text 2 0 ≡ 0xBF → (3 ≤ length text) × (take 3 text ≡ 0xEF ∷ 0xBB ∷ 0xBF ∷ [])
mark_front [] a b c = absurd (omega (arith, a))
mark_front (x ∷ []) a b c = absurd (omega (arith, b))
mark_front (x ∷ y ∷ []) a b c = absurd (omega (arith, c))
mark_front (x ∷ y ∷ z ∷ rest) a b c = (omega arith, rw (a, b, c) refl)

mark_utf8 : IsUtf8 (0xEF ∷ 0xBB ∷ 0xBF ∷ [])
unfolding encode
mark_utf8 = IsUtf8-encode 0xFEFF refl

pub mark_bytes : (text : List ℕ) → begins_with_mark text ≡ true → (get_or text 0 0 ≡ 0xEF) × (get_or text 1 0 ≡ 0xBB) × (get_or text 2 0 ≡ 0xBF)
mark_bytes text e = (grind (arith, nat_tests), grind (arith, nat_tests), grind (arith, nat_tests))

pub mark_within : (text : List ℕ) → begins_with_mark text ≡ true → (3 ≤ length text) × (take 3 text ≡ 0xEF ∷ 0xBB ∷ 0xBF ∷ [])
mark_within text e = mark_front text (grind (arith, nat_tests)) (grind (arith, nat_tests)) (grind (arith, nat_tests))

-- a text may be cut after its mark
pub mark_boundary : (text : List ℕ) → IsUtf8 text → begins_with_mark text ≡ true → IsCharBoundary text 3
mark_boundary text utf8 e =
    let front = mark_within text e in
    IsCharBoundary-from_take text 3 utf8 front.0 (subst IsUtf8 (sym front.1) mark_utf8)

-- where the columns are counted from
pub counted_from_later : (text : List ℕ) (r : ℕ) → 0 < r → counted_from text r ≡ row_start (length text) (breaks_of text) r
unfolding counted_from
counted_from_later text r h = grind (arith, nat_tests)

pub counted_from_mark : (text : List ℕ) (r : ℕ) → r ≡ 0 → begins_with_mark text ≡ true → counted_from text r ≡ 3
unfolding counted_from
counted_from_mark text r h e = grind (arith, nat_tests)

pub counted_from_first : (text : List ℕ) (r : ℕ) → r ≡ 0 → begins_with_mark text ≡ false → counted_from text r ≡ 0
unfolding counted_from row_start
counted_from_first text r h e = rw h (rw e refl)

-- the text may be cut there
pub counted_from_boundary : (text : List ℕ) (r : ℕ) → IsUtf8 text → IsCharBoundary text (counted_from text r)
unfolding counted_from
counted_from_boundary text r utf8 = at (begins_with_mark text) refl
  where
    at : (said : Bool) → begins_with_mark text ≡ said → IsCharBoundary text (counted_from text r)
    at true e = ⊎_elim (λ first. rw (counted_from_mark text r first e) (mark_boundary text utf8 e)) (λ later. rw (counted_from_later text r (omega arith)) (row_start_boundary text r utf8)) (cases_eq r 0)
    at false e = ⊎_elim (λ first. rw (counted_from_first text r first e) (IsCharBoundary-start text utf8)) (λ later. rw (counted_from_later text r (omega arith)) (row_start_boundary text r utf8)) (cases_eq r 0)

pub ruleset counted_from_a_row = (counted_from_later, counted_from_mark, counted_from_first)
