-- What the row of an offset says of the breaks.
use Rattle.std.proofs.Common.{◌≡◌, ℕ, ◌+◌, ◌-◌, ◌<◌, ◌≤◌, true, false, List, length, get_or, refl, ap, add-one, arith, ltb, suc, zero, ⊎_elim}
use Rattle.std.proofs.lemmas.Bool.{cases_lt, le-ltb, lt-ltb}
use Rattle.std.proofs.lemmas.Bool.Decides.{nat_tests}
use Rattle.std.proofs.lemmas.List.{length-map, get_or-map, get_or_past}
use Rattle.std.proofs.lemmas.List.Sorted.{IsPartitionedBy-ltb}
use Rattle.std.proofs.lemmas.List.Sums.{count_by-le-length}
use Rattle.source_location.specs.Breaks.{LineBreak, AreBreaks, IsBreakList}
use Rattle.source_location.specs.Rows.{line_starts, row_start}
use Rattle.source_location.proofs.Counting.{count_by_cut, count_by_splits}
pub use Rattle.oxc_windows.proofs.RowsLemmas.{row_le, ends_before_row, ends_from_row, row_start_after, row_start_first, row_start_past, row_start_le, row_at_start as row_of-start}
pub use Rattle.oxc_windows.proofs.WindowLemmas.{row_start_within as row_start-le}
use Rattle.oxc_windows.specs.Rows.{row_of}

later_end : (list : List LineBreak) (k m : ℕ) (d : LineBreak) → AreBreaks list → k ≤ m → m < length list → (get_or list k d).end ≤ (get_or list m d).end
later_end list k m d ok le h =
    ⊎_elim (λ lt. omega (arith, ok.apart k m d lt h, (ok.shape m d h).0))
    (λ ge. let same : k ≡ m = omega arith in omega (arith, ap (λ i. (get_or list i d).end) same))
    (cases_lt k m)

-- an offset from a row's start on, and before the next row's, is in that row
pub row_of-between : (len : ℕ) (list : List LineBreak) (o r : ℕ) → AreBreaks list → r ≤ length list → row_start len list r ≤ o
    → (r < length list → o < row_start len list (r + 1)) → row_of list o ≡ r
unfolding row_of
row_of-between len list o r ok le from upto =
    count_by_cut (λ b. ltb b.end o) list r le
    (λ k d h. lt-ltb (get_or list k d).end o (below r k d h le from))
    (λ k d low high. le-ltb (get_or list k d).end o (omega (arith, later_end list r k d ok low high, upto (omega (arith, low, high)), ap (row_start len list) (add-one r), row_start_after len list r d (omega (arith, low, high)))))
  where
    below : (m k : ℕ) (d : LineBreak) → k < m → m ≤ length list → row_start len list m ≤ o → (get_or list k d).end < o
    below zero k d h within start = absurd (omega arith)
    below (suc m) k d h within start =
        omega (arith, later_end list k m d ok (omega arith) (omega arith), row_start_after len list m d (omega arith), start)

-- a row that a break ends starts before the next
pub row_start-lt-next : (len : ℕ) (list : List LineBreak) (r : ℕ) → AreBreaks list → r < length list → row_start len list r < row_start len list (r + 1)
row_start-lt-next len list zero ok h =
    let none : LineBreak = record { start = 0; end = 0 } in
    omega (arith, row_start_first len list, ap (row_start len list) (add-one 0), row_start_after len list 0 none h)
row_start-lt-next len list (suc m) ok h =
    let none : LineBreak = record { start = 0; end = 0 } in
    omega (arith, ap (row_start len list) (add-one (suc m)), row_start_after len list m none (omega arith), row_start_after len list (suc m) none h, ok.apart m (suc m) none (omega arith) h, (ok.shape (suc m) none h).0)

-- an offset is no later than where the next row starts
pub le_next_start : (len : ℕ) (list : List LineBreak) (o r : ℕ) → AreBreaks list → o ≤ len → row_of list o ≡ r → o ≤ row_start len list (r + 1)
le_next_start len list o r ok within e =
    let none : LineBreak = record { start = 0; end = 0 } in
    let next = ap (row_start len list) (add-one r) in
    ⊎_elim (λ lt. omega (arith, next, row_start_after len list r none lt, ends_from_row list o ok r none (omega (arith, e)) lt))
    (λ ge. omega (arith, next, row_start_past len list (suc r) (omega (arith, ge))))
    (cases_lt r (length list))

-- rows start one after another, the last no later than the text ends
pub row_start-le-next : (len : ℕ) (list : List LineBreak) (r : ℕ) → IsBreakList len list → row_start len list r ≤ row_start len list (r + 1)
row_start-le-next len list r ok =
    ⊎_elim (λ le. le_next_start len list (row_start len list r) r ok.ordered (row_start-le len list r ok) (row_of-start len list r ok.ordered (omega (arith, le))))
    (λ past. omega (arith, row_start_past len list r past, ap (row_start len list) (add-one r), row_start_past len list (suc r) (omega (arith, past))))
    (cases_lt r (suc (length list)))

-- the same for rows that count from 1
pub row_start-le-from : (len : ℕ) (list : List LineBreak) (r : ℕ) → IsBreakList len list → row_start len list (r - 1) ≤ row_start len list r
row_start-le-from len list zero ok = omega (arith, ap (row_start len list) (sub-zero-one))
  where
    sub-zero-one : 0 - 1 ≡ 0
    sub-zero-one = omega arith
row_start-le-from len list (suc r) ok =
    let before : suc r - 1 ≡ r = omega arith in
    omega (arith, ap (row_start len list) before, ap (row_start len list) (add-one r), row_start-le-next len list r ok)
