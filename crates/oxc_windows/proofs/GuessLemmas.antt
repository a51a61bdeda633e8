-- A guess that was tested needs no search.
use Rattle.std.proofs.Common.{cond, ◌≡◌, ◌⊎◌, ℕ, ◌+◌, ◌-◌, ◌<◌, ◌≤◌, List, length, take, drop, get_or, count_by, sym, ◌∙◌, arith, leb, ltb, ⊎_elim}
use Rattle.std.specs.List.Sorted.{IsNonDecreasing}
use Rattle.std.proofs.lemmas.Bool.{cases_lt, le-leb, le-ltb, lt-leb, lt-ltb}
use Rattle.std.proofs.lemmas.List.{get_or-take, get_or_default, get_or_past, length-take-le}
use Rattle.std.proofs.lemmas.List.Sums.{sum_by-take-drop}
use Rattle.oxc_windows.specs.Seen.{heads_before, row_seen}
use Rattle.oxc_windows.proofs.Counting.{count_by_cut}
use Rattle.oxc_windows.proofs.ListLemmas.{count_all}

-- the row that starts at an offset or before, and whose next starts after it
pub row_guessed : (starts : List ℕ) (row offset : ℕ) → IsNonDecreasing starts → row < length starts → get_or starts row 0 ≤ offset → offset < get_or starts (row + 1) 18446744073709551615
    → row ≡ row_seen starts offset
unfolding row_seen
row_guessed starts row offset rising within low high =
    let count : count_by (λ s. leb s offset) starts ≡ row + 1 =
    count_by_cut (λ s. leb s offset) starts (row + 1) (omega (arith, within))
    (λ k d h. le-leb (get_or starts k d) offset (omega (arith, rising k row d (omega (arith, h)) within, get_or_default starts row d 0 within, low)))
    (λ k d from inside. lt-leb (get_or starts k d) offset
    (omega (arith, rising (row + 1) k d from inside, get_or_default starts (row + 1) d 18446744073709551615 (omega (arith, from, inside)), high))) in
    omega (arith, count)

-- the count of numbers below a place, of which the last that is counted and the first that isn't were tested
pub count_guessed : (heads : List ℕ) (count to : ℕ) → IsNonDecreasing heads → count ≤ length heads → (count ≡ 0) ⊎ (get_or heads (count - 1) 0 < to)
    → to ≤ get_or heads count 18446744073709551615 → count ≡ heads_before heads to
unfolding heads_before
count_guessed heads count to rising within low high =
    sym (count_by_cut (λ h. ltb h to) heads count within
    (λ k d lt. ⊎_elim (λ zero. absurd (omega (arith, lt, zero)))
    (λ last. lt-ltb (get_or heads k d) to (omega (arith, rising k (count - 1) d (omega (arith, lt)) (omega (arith, lt, within)), get_or_default heads (count - 1) d 0 (omega (arith, lt, within)), last))) low)
    (λ k d from inside. le-ltb (get_or heads k d) to
    (omega (arith, rising count k d from inside, get_or_default heads count d 18446744073709551615 (omega (arith, from, inside)), high))))

-- the numbers before one that is below a place are, too
pub count_tail : (heads : List ℕ) (tail to : ℕ) → IsNonDecreasing heads → tail ≤ length heads → get_or heads tail 18446744073709551615 < to → to < 18446744073709551616
    → tail + heads_before (drop tail heads) to ≡ heads_before heads to
unfolding heads_before
count_tail heads tail to rising within low small =
    let inside : tail < length heads = ⊎_elim (λ lt. lt) (λ ge. absurd (omega (arith, get_or_past heads tail 18446744073709551615 ge, low, small))) (cases_lt tail (length heads)) in
    let front : count_by (λ h. ltb h to) (take tail heads) ≡ tail =
    count_all (λ h. ltb h to) (take tail heads) (λ k d h.
    let lt : k < tail = omega (arith, h, length-take-le tail heads within) in
    lt-ltb (get_or (take tail heads) k d) to
    (omega (arith, get_or-take tail heads k d lt, rising k tail d (omega (arith, lt)) inside, get_or_default heads tail d 18446744073709551615 inside, low)))
    ∙ length-take-le tail heads within in
    omega (arith, front, sum_by-take-drop (λ h. cond (ltb h to) 1 0) heads tail)
