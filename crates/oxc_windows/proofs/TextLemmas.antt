-- A text is cut where rows begin, so a window of whole rows of a text is a text.
use Rattle.std.proofs.Common.{◌≡◌, ℕ, ◌+◌, ◌-◌, ◌≤◌, List, length, false, eqb, slice_range, sym, ap, subst, arith, suc, zero, ⊎_elim}
use Rattle.std.specs.Str.{IsUtf8, IsCharBoundary}
use Rattle.std.proofs.lemmas.Bool.{cases_lt}
use Rattle.std.proofs.lemmas.Bool.Decides.{nat_tests}
use Rattle.std.proofs.lemmas.Str.{IsCharBoundary-start, IsCharBoundary-end, IsCharBoundary-after_ascii, IsUtf8-between}
use Rattle.oxc_windows.specs.declared.breaks.LineBreak.{LineBreak}
use Rattle.oxc_windows.specs.declared.window.Window.{Window}
use Rattle.oxc_windows.specs.Breaks.{breaks_of}
use Rattle.oxc_windows.specs.Rows.{row_of, row_start}
use Rattle.oxc_windows.specs.Window.{first_row, row_further, window_begin, window_at, window_end}
use Rattle.oxc_windows.proofs.BreaksLemmas.{break_ends_ascii}
use Rattle.oxc_windows.specs.Valid.{breaks_valid}
use Rattle.oxc_windows.proofs.RowsLemmas.{row_start_after, row_start_past}

-- a text may be cut where a row starts
pub row_start_boundary : (text : List ℕ) (r : ℕ) → IsUtf8 text → IsCharBoundary text (row_start (length text) (breaks_of text) r)
unfolding row_start
row_start_boundary text zero utf8 = IsCharBoundary-start text utf8
row_start_boundary text (suc k) utf8 =
    let d : LineBreak = record { start = 0; end = 0 } in
    ⊎_elim (λ lt.
    let inside = (breaks_valid text).within k d lt in
    rw (row_start_after (length text) (breaks_of text) k d lt) (IsCharBoundary-after_ascii text _ utf8 inside (break_ends_ascii text k d lt)))
    (λ ge. rw (row_start_past (length text) (breaks_of text) (suc k) (omega (arith, ge))) (IsCharBoundary-end text))
    (cases_lt k (length (breaks_of text)))

-- a window with a row of context begins and ends where a row starts
not_zero : (n : ℕ) → 1 ≤ n → eqb n 0 ≡ false
not_zero n some = grind (arith, nat_tests)

begin_boundary : (text : List ℕ) (before start : ℕ) → IsUtf8 text → 1 ≤ before → IsCharBoundary text (window_begin (length text) (breaks_of text) before start)
begin_boundary text before start utf8 some = rw (not_zero before some) (row_start_boundary text (first_row (breaks_of text) before start) utf8)

end_boundary : (text : List ℕ) (after end : ℕ) → IsUtf8 text → 1 ≤ after → IsCharBoundary text (window_end (length text) (breaks_of text) after end)
unfolding window_end
end_boundary text after end utf8 some =
    rw (not_zero after some) (row_start_boundary text (row_of (breaks_of text) (end - 1) + after + row_further (breaks_of text) (end - 1) + 1) utf8)

-- the bytes of a window with rows of context on both sides are a text
pub window_text : (text : List ℕ) (before after start end : ℕ) (w : Window) → IsUtf8 text → 1 ≤ before → 1 ≤ after → w.begin ≤ w.end
    → w ≡ window_at (length text) (breaks_of text) before after start end → IsUtf8 (slice_range text w.begin w.end)
window_text text before after start end w utf8 some_before some_after ordered known =
    IsUtf8-between text w.begin w.end utf8 ordered
    (subst (IsCharBoundary text) (sym (ap (λ v. v.begin) known)) (begin_boundary text before start utf8 some_before))
    (subst (IsCharBoundary text) (sym (ap (λ v. v.end) known)) (end_boundary text after end utf8 some_after))
