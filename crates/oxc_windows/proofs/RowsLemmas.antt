-- What the row of an offset says of the breaks, and where the LF of a CRLF stands.
use Rattle.std.proofs.Common.{◌≡◌, ℕ, ◌+◌, ◌-◌, ◌<◌, ◌≤◌, ◌&&◌, Bool, true, false, List, length, get_or, refl, sym, ap, subst, ◌∙◌, arith, ltb, eqb, suc, zero, ⊎_elim}
use Rattle.std.proofs.lemmas.Bool.{cases_lt, ltb-false, ltb-true, false≢true, and_parts, eqb-true}
use Rattle.std.proofs.lemmas.Bool.Decides.{nat_tests}
use Rattle.std.proofs.lemmas.List.{length-map, get_or-map, get_or_past, get_or_default}
use Rattle.std.proofs.lemmas.List.Folds.{Any-from_list_any, list_any_at}
use Rattle.std.proofs.lemmas.List.Sorted.{IsPartitionedBy-ltb}
use Rattle.std.proofs.lemmas.List.Sums.{count_by-le-length}
use Rattle.oxc_windows.specs.declared.breaks.LineBreak.{LineBreak}
use Rattle.oxc_windows.specs.Breaks.{AreBreaks, IsBreakList}
use Rattle.oxc_windows.specs.Rows.{row_of, row_starts, row_start, is_second_byte, settled}
use Rattle.oxc_windows.proofs.Counting.{count_by_splits, false_unless}
use Rattle.oxc_windows.proofs.BreaksLemmas.{rising_ends}

-- what stands past the last break
pub no_break : LineBreak
no_break = record { start = 0; end = 0 }

pub row_le : (list : List LineBreak) (o : ℕ) → row_of list o ≤ length list
unfolding row_of
row_le list o = count_by-le-length (λ b. ltb b.end o) list

-- the breaks before the row end before the offset
pub ends_before_row : (list : List LineBreak) (o : ℕ) → AreBreaks list → (k : ℕ) (d : LineBreak) → k < row_of list o → (get_or list k d).end < o
unfolding row_of
ends_before_row list o ok k d h = ltb-true _ _ ((count_by_splits (λ b. ltb b.end o) list (IsPartitionedBy-ltb (λ b. b.end) list o (rising_ends list ok))).0 k d h)

-- the others do not
pub ends_from_row : (list : List LineBreak) (o : ℕ) → AreBreaks list → (k : ℕ) (d : LineBreak) → row_of list o ≤ k → k < length list → o ≤ (get_or list k d).end
unfolding row_of
ends_from_row list o ok k d low high = ltb-false _ _ ((count_by_splits (λ b. ltb b.end o) list (IsPartitionedBy-ltb (λ b. b.end) list o (rising_ends list ok))).1 k d low high)

-- the start of a row past the first
pub row_start_after : (len : ℕ) (list : List LineBreak) (k : ℕ) (d : LineBreak) → k < length list → row_start len list (suc k) ≡ (get_or list k d).end + 1
unfolding row_start
row_start_after len list k d h = get_or-map (λ b. b.end + 1) list k d len h

-- no row starts after the last
pub row_start_past : (len : ℕ) (list : List LineBreak) (r : ℕ) → length list < r → row_start len list r ≡ len
unfolding row_start
row_start_past len list r h = get_or_past (row_starts list) r len (simp (length-map) (omega arith))

-- the row of an offset starts no later than the offset
pub row_start_le : (len : ℕ) (list : List LineBreak) (o r : ℕ) → AreBreaks list → r ≡ row_of list o → row_start len list r ≤ o
unfolding row_start
row_start_le len list o zero ok e = omega arith
row_start_le len list o (suc k) ok e =
    let h : k < length list = omega (arith, row_le list o) in
    omega (arith, row_start_after len list k no_break h, ends_before_row list o ok k no_break (omega arith))

-- a break that ends at an offset is the one at the offset's row
pub end_at_row : (list : List LineBreak) (o k : ℕ) (d : LineBreak) → AreBreaks list → k < length list → (get_or list k d).end ≡ o → k ≡ row_of list o
end_at_row list o k d ok h e =
    ⊎_elim (λ before. absurd (omega (arith, ends_before_row list o ok k d before)))
    (λ from. ⊎_elim (λ more. absurd (omega (arith, ends_from_row list o ok (row_of list o) d (omega arith) (omega arith), ok.apart (row_of list o) k d more h, (ok.shape k d h).0)))
    (λ upto. omega (arith, from, upto)) (cases_lt (row_of list o) k))
    (cases_lt k (row_of list o))

-- an offset is the second byte of a break exactly where the break at its row says so
pub second_at : (list : List LineBreak) (o : ℕ) (d : LineBreak) → AreBreaks list → row_of list o < length list
    → (said : Bool) → eqb (get_or list (row_of list o) d).end o && ltb (get_or list (row_of list o) d).start o ≡ said → is_second_byte list o ≡ said
second_at list o d ok h true e = list_any_at (λ b. eqb b.end o && ltb b.start o) list (row_of list o) d h e
second_at list o d ok h false e =
    false_unless (is_second_byte list o) (λ yes.
    let found = Any-from_list_any (λ b. eqb b.end o && ltb b.start o) list yes in
    let parts = and_parts (eqb found.1.end o) (ltb found.1.start o) found.4 in
    let ends : (get_or list found.0 found.1).end ≡ o = ap (λ b. b.end) found.3 ∙ eqb-true found.1.end o parts.0 in
    let place = end_at_row list o found.0 found.1 ok found.2 ends in
    let same : found.1 ≡ get_or list (row_of list o) d = sym found.3 ∙ get_or_default list found.0 found.1 d found.2 ∙ ap (λ k. get_or list k d) place in
    false≢true (sym e ∙ subst (λ b. eqb b.end o && ltb b.start o ≡ true) same found.4))

-- past the last row it is none
pub second_past : (list : List LineBreak) (o : ℕ) → AreBreaks list → length list ≤ row_of list o → is_second_byte list o ≡ false
second_past list o ok h =
    false_unless (is_second_byte list o) (λ yes.
    let found = Any-from_list_any (λ b. eqb b.end o && ltb b.start o) list yes in
    let parts = and_parts (eqb found.1.end o) (ltb found.1.start o) found.4 in
    let ends : (get_or list found.0 found.1).end ≡ o = ap (λ b. b.end) found.3 ∙ eqb-true found.1.end o parts.0 in
    omega (arith, end_at_row list o found.0 found.1 ok found.2 ends, found.2, h))

test_yes : (a c o : ℕ) → a ≡ o → c < o → eqb a o && ltb c o ≡ true
test_yes a c o e lt = grind (arith, nat_tests)

test_no_start : (a c o : ℕ) → o ≤ c → eqb a o && ltb c o ≡ false
test_no_start a c o le = grind (arith, nat_tests)

test_no_end : (a c o : ℕ) → (a ≡ o → ⊥) → eqb a o && ltb c o ≡ false
test_no_end a c o ne = grind (arith, nat_tests)

-- an offset on the last byte of a break counts as the break's start
pub settled_at : (list : List LineBreak) (o : ℕ) (d : LineBreak) → AreBreaks list → row_of list o < length list → (get_or list (row_of list o) d).end ≡ o → settled list o ≡ (get_or list (row_of list o) d).start
unfolding settled
settled_at list o d ok h e =
    let shape = ok.shape (row_of list o) d h in
    let b = get_or list (row_of list o) d in
    ⊎_elim (λ lt. rw (second_at list o d ok h true (test_yes b.end b.start o e lt)) (omega (arith, shape, e, lt)))
    (λ ge. rw (second_at list o d ok h false (test_no_start b.end b.start o ge)) (omega (arith, shape, e, ge)))
    (cases_lt b.start o)

-- every other offset counts as itself
pub settled_else : (list : List LineBreak) (o : ℕ) (d : LineBreak) → AreBreaks list → (row_of list o < length list → (get_or list (row_of list o) d).end ≡ o → ⊥) → settled list o ≡ o
unfolding settled
settled_else list o d ok none =
    ⊎_elim (λ lt. rw (second_at list o d ok lt false (test_no_end (get_or list (row_of list o) d).end (get_or list (row_of list o) d).start o (none lt))) refl)
    (λ ge. rw (second_past list o ok ge) refl)
    (cases_lt (row_of list o) (length list))

-- the row of an offset starts no later than where the offset counts
pub row_start_le_settled : (len : ℕ) (list : List LineBreak) (o r : ℕ) (d : LineBreak) → AreBreaks list → r ≡ row_of list o → r < length list → row_start len list r ≤ (get_or list r d).start
unfolding row_start
row_start_le_settled len list o zero d ok e h = omega arith
row_start_le_settled len list o (suc k) d ok e h =
    omega (arith, row_start_after len list k d (omega arith), ok.apart k (suc k) d (omega arith) h)

-- both, for a row that is known by another name
pub settled_at_row : (list : List LineBreak) (o r : ℕ) (d : LineBreak) → AreBreaks list → r ≡ row_of list o → r < length list → (get_or list r d).end ≡ o → settled list o ≡ (get_or list r d).start
settled_at_row list o r d ok e = subst (λ k. k < length list → (get_or list k d).end ≡ o → settled list o ≡ (get_or list k d).start) (sym e) (settled_at list o d ok)

pub settled_else_row : (list : List LineBreak) (o r : ℕ) (d : LineBreak) → AreBreaks list → r ≡ row_of list o → (r < length list → (get_or list r d).end ≡ o → ⊥) → settled list o ≡ o
settled_else_row list o r d ok e = subst (λ k. (k < length list → (get_or list k d).end ≡ o → ⊥) → settled list o ≡ o) (sym e) (settled_else list o d ok)

pub settled_past_row : (list : List LineBreak) (o r : ℕ) → AreBreaks list → r ≡ row_of list o → length list ≤ r → settled list o ≡ o
settled_past_row list o r ok e past = settled_else_row list o r no_break ok e (λ h same. omega (arith, h, past))

place_le_start : (list : List LineBreak) → AreBreaks list → (k : ℕ) → k < length list → k ≤ (get_or list k no_break).start
place_le_start list ok zero h = omega arith
place_le_start list ok (suc k) h =
    omega (arith, place_le_start list ok k (omega arith), ok.apart k (suc k) no_break (omega arith) h, (ok.shape k no_break (omega arith)).0)

-- a text has no more breaks than bytes
pub few_in_text : (len : ℕ) (list : List LineBreak) → IsBreakList len list → length list ≤ len
few_in_text len list ok =
    ⊎_elim (λ some.
    let last = length list - 1 in
    omega (arith, place_le_start list ok.ordered last (omega (arith, some)), (ok.ordered.shape last no_break (omega (arith, some))).0, ok.within last no_break (omega (arith, some))))
    (λ zero. omega arith) (cases_lt 0 (length list))

-- no offset has more rows before it than bytes
pub row_of_le : (list : List LineBreak) (o : ℕ) → AreBreaks list → row_of list o ≤ o
row_of_le list o ok =
    ⊎_elim
    (λ some.
    let k = row_of list o - 1 in
    let inside : k < length list = omega (arith, row_le list o, some) in
    omega (arith, place_le_start list ok k inside, (ok.shape k no_break inside).0, ends_before_row list o ok k no_break (omega (arith, some)), some))
    (λ none. omega (arith, none)) (cases_lt 0 (row_of list o))

-- the row past the end of a break
pub row_past_end : (list : List LineBreak) (k : ℕ) (d : LineBreak) → AreBreaks list → k < length list → row_of list ((get_or list k d).end + 1) ≡ k + 1
row_past_end list k d ok lt =
    let o = (get_or list k d).end + 1 in
    let low : k < row_of list o = ⊎_elim (λ h. h) (λ ge. absurd (omega (arith, ends_from_row list o ok k d ge lt))) (cases_lt k (row_of list o)) in
    let high : row_of list o ≤ k + 1 =
    ⊎_elim
    (λ past.
    let inside : k + 1 < length list = omega (arith, past, row_le list o) in
    absurd (omega (arith, ends_before_row list o ok (k + 1) d past, ok.apart k (k + 1) d (omega arith) inside, (ok.shape (k + 1) d inside).0)))
    (λ le. le) (cases_lt (k + 1) (row_of list o)) in
    omega (arith, low, high)

-- the first row starts at 0
pub row_start_first : (len : ℕ) (list : List LineBreak) → row_start len list 0 ≡ 0
unfolding row_start
row_start_first len list = refl

-- a row of the source starts in that row
pub row_at_start : (len : ℕ) (list : List LineBreak) (r : ℕ) → AreBreaks list → r ≤ length list → row_of list (row_start len list r) ≡ r
unfolding row_start
row_at_start len list zero ok le = omega (arith, row_of_le list 0 ok)
row_at_start len list (suc k) ok le =
    ap (row_of list) (row_start_after len list k no_break le) ∙ row_past_end list k no_break ok le ∙ omega arith

-- what a settled offset is, by its row
pub ruleset settled_by_row = (settled_at_row, settled_else_row, settled_past_row, row_start_le, row_start_le_settled)
