-- Where windows begin and end.
use Rattle.std.proofs.Common.{◌≡◌, ◌⊎◌, ℕ, ◌+◌, ◌-◌, ◌<◌, ◌≤◌, ◌&&◌, true, List, length, min, Some, None, refl, sym, ap, ◌∙◌, arith, eqb, suc, zero, subst, inl, inr, ⊎_elim}
use Rattle.std.proofs.lemmas.Bool.{cases_lt, and_parts, eqb-true, le-ltb, lt-ltb}
use Rattle.std.proofs.lemmas.List.Folds.{Any-from_list_any}
use Rattle.oxc_windows.specs.declared.breaks.LineBreak.{LineBreak}
use Rattle.oxc_windows.specs.Breaks.{IsBreakList}
use Rattle.oxc_windows.specs.Rows.{row_of, row_start}
use Rattle.oxc_windows.specs.Window.{is_first_byte, row_further, window_at, window_end, window_of}
use Rattle.oxc_windows.proofs.BreaksLemmas.{rising_ends}
use Rattle.oxc_windows.proofs.RowsLemmas.{no_break, row_start_after, row_start_past, row_start_le, ends_from_row, few_in_text}

-- a row starts within the text
pub row_start_within : (len : ℕ) (list : List LineBreak) (r : ℕ) → IsBreakList len list → row_start len list r ≤ len
unfolding row_start
row_start_within len list zero ok = omega arith
row_start_within len list (suc k) ok =
    ⊎_elim (λ lt. omega (arith, row_start_after len list k no_break lt, ok.within k no_break lt))
    (λ ge. omega (arith, row_start_past len list (suc k) (omega arith))) (cases_lt k (length list))

-- later rows start no earlier
pub row_start_mono : (len : ℕ) (list : List LineBreak) (r s : ℕ) → IsBreakList len list → r ≤ s → row_start len list r ≤ row_start len list s
unfolding row_start
row_start_mono len list zero s ok le = omega arith
row_start_mono len list (suc k) zero ok le = absurd (omega arith)
row_start_mono len list (suc k) (suc j) ok le =
    ⊎_elim (λ lt. omega (arith, row_start_after len list j no_break lt, row_start_after len list k no_break (omega arith), rising_ends list ok.ordered k j no_break (omega arith) lt))
    (λ ge. omega (arith, row_start_past len list (suc j) (omega arith), row_start_within len list (suc k) ok)) (cases_lt j (length list))

-- a row no later than that of an offset starts no later than the offset
pub row_start_before : (len : ℕ) (list : List LineBreak) (offset r : ℕ) → IsBreakList len list → r ≤ row_of list offset → row_start len list r ≤ offset
row_start_before len list offset r ok le =
    omega (arith, row_start_mono len list r (row_of list offset) ok le, row_start_le len list offset (row_of list offset) ok.ordered refl)

-- a row past that of the last byte of a span starts at the span's end or later
pub row_start_past_last : (len : ℕ) (list : List LineBreak) (end r : ℕ) → IsBreakList len list → end ≤ len → row_of list (end - 1) < r → end ≤ row_start len list r
row_start_past_last len list end zero ok le past = absurd (omega arith)
row_start_past_last len list end (suc k) ok le past =
    ⊎_elim (λ lt. omega (arith, row_start_after len list k no_break lt, ends_from_row list (end - 1) ok.ordered k no_break (omega arith) lt))
    (λ ge. omega (arith, row_start_past len list (suc k) (omega arith))) (cases_lt k (length list))

-- a number past all rows may be cut
pub row_start_saturated : (len : ℕ) (list : List LineBreak) (r most : ℕ) → IsBreakList len list → len < most → row_start len list (min r most) ≡ row_start len list r
row_start_saturated len list r most ok lt =
    ⊎_elim (λ small. ap (row_start len list) (omega arith))
    (λ far. row_start_past len list (min r most) (omega (arith, few_in_text len list ok)) ∙ sym (row_start_past len list r (omega (arith, few_in_text len list ok)))) (cases_lt r most)

-- a CRLF ends within the text
pub pair_within : (len : ℕ) (list : List LineBreak) (at : ℕ) → IsBreakList len list → is_first_byte list at ≡ true → at + 2 ≤ len
pair_within len list at ok said =
    let found = Any-from_list_any (λ b. eqb b.start at && eqb b.end (at + 1)) list said in
    let parts = and_parts (eqb found.1.start at) (eqb found.1.end (at + 1)) found.4 in
    let ends : found.1.end ≡ at + 1 = eqb-true found.1.end (at + 1) parts.1 in
    omega (arith, ok.within found.0 found.1 found.2, ap (λ b. b.end) found.3, ends)

-- a span that ends within the text has a window
pub window_of_inside : (len : ℕ) (list : List LineBreak) (before after start end : ℕ) → end ≤ len → window_of len list before after start end ≡ Some (window_at len list before after start end)
unfolding window_of
window_of_inside len list before after start end le = rw (le-ltb len end le) refl

-- a span that ends past the text has none
pub window_of_past : (len : ℕ) (list : List LineBreak) (before after start end : ℕ) → len < end → window_of len list before after start end ≡ None
unfolding window_of
window_of_past len list before after start end lt = rw (lt-ltb len end lt) refl

-- a window of rows round a span reaches past each place up to the span's end, or to the source's end
pub window_reaches : (len : ℕ) (list : List LineBreak) (end : ℕ) → IsBreakList len list → end ≤ len → (end < window_end len list 1 end) ⊎ (window_end len list 1 end ≡ len)
unfolding window_end
window_reaches len list end ok le =
    let last = row_of list (end - 1) in
    let k = last + 1 + row_further list (end - 1) in
    let one_more : suc k ≡ last + 1 + row_further list (end - 1) + 1 = omega arith in
    ⊎_elim
    (λ inside.
    let before = ends_from_row list (end - 1) ok.ordered (k - 1) no_break (omega arith) (omega (arith, inside)) in
    let apart = ok.ordered.apart (k - 1) k no_break (omega arith) inside in
    let shape = (ok.ordered.shape k no_break inside).0 in
    inl (subst (λ r. end < row_start len list r) one_more (omega (arith, row_start_after len list k no_break inside, before, apart, shape))))
    (λ past. inr (subst (λ r. row_start len list r ≡ len) one_more (row_start_past len list (suc k) (omega (arith, past)))))
    (cases_lt k (length list))

-- where a window ends with rows after it
pub ruleset window_ends = (row_start_saturated, row_start_past_last, row_start_within)
