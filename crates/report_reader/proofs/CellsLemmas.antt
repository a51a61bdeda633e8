-- The lines under a row, cell by cell.
use Rattle.std.proofs.Common.{◌≡◌, ℕ, ◌+◌, ◌-◌, ◌<◌, ◌≤◌, ◌==◌, ◌&&◌, Bool, true, false, List, [], ◌∷◌, ◌++◌, All, length, get_or, replicate, if◌then◌else◌, leb, ltb, refl, sym, ap, ◌∙◌, arith, zero, suc, Option, Some, None, append_assoc, length-append, ⊎_elim}
use Rattle.std.proofs.lemmas.Bool.{and_left, and_right, cases_lt, eq-eqb, eqb-true, false_from_ne_true, le-leb, le-ltb, lt-leb, lt-ltb}
use Rattle.std.proofs.lemmas.Bool.Decides.{nat_tests}
use Rattle.std.proofs.lemmas.List.{length-replicate}
use Rattle.std.proofs.lemmas.List.Elements.{All-head, All-tail}
use Rattle.report_reader.specs.Cells.{AreCells, HoldsBars, HoldsMarks, IsBeside, mark_cell}
use Rattle.report_reader.specs.Seen.{Mark}
use Rattle.report_reader.specs.Shown.{bar_of, bars_to, carets, gap, mark_body, mark_cells, marker, spaces}
use Rattle.report_reader.specs.WellFormed.{are_marks}
use Rattle.report_reader.proofs.RunsLemmas.{AreApart, apart_from, marks_apart}

-- ---- equal cells at the front of a line

get_spaces : (n i : ℕ) → get_or (spaces n) i 0x20 ≡ 0x20
get_spaces zero i = refl
get_spaces (suc n) zero = refl
get_spaces (suc n) (suc i) = get_spaces n i

front_same : (n b i d : ℕ) (cells : List ℕ) → i < n → get_or (replicate n b ++ cells) i d ≡ b
front_same zero b i d cells lt = absurd (omega (arith, lt))
front_same (suc n) b zero d cells lt = refl
front_same (suc n) b (suc i) d cells lt = front_same n b i d cells (omega (arith, lt))

behind_same : (n b i d : ℕ) (cells : List ℕ) → get_or (replicate n b ++ cells) (n + i) d ≡ get_or cells i d
behind_same zero b i d cells = let e : 0 + i ≡ i = omega arith in rw e refl
behind_same (suc n) b i d cells = let e : suc n + i ≡ suc (n + i) = omega arith in rw e (behind_same n b i d cells)

-- ---- tests

unlike_lt : (a b : ℕ) → a < b → (a == b) ≡ false
unlike_lt a b lt = grind (arith, nat_tests)

unlike_gt : (a b : ℕ) → b < a → (a == b) ≡ false
unlike_gt a b lt = grind (arith, nat_tests)

unlike_ne : (a b : ℕ) → (b ≡ a → ⊥) → (a == b) ≡ false
unlike_ne a b differ = false_from_ne_true (a == b) (λ yes. differ (sym (eqb-true a b yes)))

inside : (m : Mark) (cell : ℕ) → m.start ≤ cell → cell < m.end → (leb m.start cell && ltb cell m.end) ≡ true
inside m cell low high = rw (le-leb m.start cell low, lt-ltb cell m.end high) refl

outside : (m : Mark) (cell : ℕ) → IsBeside cell m → (leb m.start cell && ltb cell m.end) ≡ false
outside m cell beside =
    ⊎_elim (λ lt. and_left (leb m.start cell) (ltb cell m.end) (lt-leb m.start cell lt))
    (λ ge. and_right (leb m.start cell) (ltb cell m.end) (le-ltb cell m.end (beside ge))) (cases_lt cell m.start)

-- ---- the cells of a mark

body_before : (j k c i d : ℕ) (cells : List ℕ) → i < j → get_or ((carets j ++ (c ∷ carets k)) ++ cells) i d ≡ 0x5E
body_before j k c i d cells lt =
    ap (λ l. get_or l i d) (append_assoc (carets j) (c ∷ carets k) cells) ∙ front_same j 0x5E i d ((c ∷ carets k) ++ cells) lt

body_at : (j k c i d : ℕ) (cells : List ℕ) → i ≡ j → get_or ((carets j ++ (c ∷ carets k)) ++ cells) i d ≡ c
body_at j k c i d cells is =
    let e : i ≡ j + 0 = omega (arith, is) in
    ap (λ l. get_or l i d) (append_assoc (carets j) (c ∷ carets k) cells)
    ∙ ap (λ n. get_or (carets j ++ ((c ∷ carets k) ++ cells)) n d) e
    ∙ behind_same j 0x5E 0 d ((c ∷ carets k) ++ cells)

body_past : (j k c i n d : ℕ) (cells : List ℕ) → n ≡ j + suc i → get_or ((carets j ++ (c ∷ carets k)) ++ cells) n d ≡ get_or (carets k ++ cells) i d
body_past j k c i n d cells is =
    ap (λ l. get_or l n d) (append_assoc (carets j) (c ∷ carets k) cells)
    ∙ ap (λ n. get_or (carets j ++ ((c ∷ carets k) ++ cells)) n d) is
    ∙ behind_same j 0x5E (suc i) d ((c ∷ carets k) ++ cells)

body_cell : (m : Mark) (cells : List ℕ) (cell : ℕ) → m.start < m.end → m.start ≤ cell → cell < m.end → get_or (mark_body m ++ cells) (cell - m.start) 0x20 ≡ mark_cell m cell
unfolding mark_body
body_cell m cells cell some low high =
    let j = bar_of m - m.start in
    let k = m.end - bar_of m - 1 in
    ⊎_elim
    (λ (before : cell < bar_of m). rw (unlike_lt cell (bar_of m) before) (body_before j k (marker m) (cell - m.start) 0x20 cells (omega (arith, before, low))))
    (λ (from : bar_of m ≤ cell). ⊎_elim
    (λ (behind : bar_of m < cell).
    let place : cell - m.start ≡ j + suc (cell - bar_of m - 1) = omega (arith, behind, low, some) in
    let short : cell - bar_of m - 1 < k = omega (arith, behind, high) in
    let there : get_or ((carets j ++ (marker m ∷ carets k)) ++ cells) (cell - m.start) 0x20 ≡ 0x5E =
    body_past j k (marker m) (cell - bar_of m - 1) (cell - m.start) 0x20 cells place ∙ front_same k 0x5E (cell - bar_of m - 1) 0x20 cells short in
    rw (unlike_gt cell (bar_of m) behind) there)
    (λ (upto : cell ≤ bar_of m).
    let is : cell ≡ bar_of m = omega (arith, from, upto) in
    rw (eq-eqb cell (bar_of m) is) (body_at j k (marker m) (cell - m.start) 0x20 cells (omega (arith, is))))
    (cases_lt (bar_of m) cell))
    (cases_lt cell (bar_of m))

body_behind : (m : Mark) (cells : List ℕ) (cell : ℕ) → m.start < m.end → m.end ≤ cell → get_or (mark_body m ++ cells) (cell - m.start) 0x20 ≡ get_or cells (cell - m.end) 0x20
unfolding mark_body
body_behind m cells cell some past =
    let j = bar_of m - m.start in
    let k = m.end - bar_of m - 1 in
    body_past j k (marker m) (k + (cell - m.end)) (cell - m.start) 0x20 cells (omega (arith, some, past))
    ∙ behind_same k 0x5E (cell - m.end) 0x20 cells

-- ---- the line of marks

abbrev value : List Mark → ℕ → ℕ
value [] cell = 0x20
value (m ∷ more) cell = if leb m.start cell && ltb cell m.end then mark_cell m cell else value more cell

-- marks start from a place on, and end behind their starts
starts_from : (least : ℕ) (marks : List Mark) → AreApart least marks → (k : ℕ) (d : Mark) → k < length marks → (least ≤ (get_or marks k d).start) × ((get_or marks k d).start < (get_or marks k d).end)
starts_from least [] apart k d h = absurd (omega (arith, h))
starts_from least (m ∷ more) (mark, apart) zero d h = (mark.start, mark.end)
starts_from least (m ∷ more) (mark, apart) (suc k) d h =
    let later = starts_from (m.end + 1) more apart k d (omega (arith, h)) in
    (omega (arith, mark.start, mark.end, later.0), later.1)

value_early : (least : ℕ) (marks : List Mark) (cell : ℕ) → AreApart least marks → cell < least → value marks cell ≡ 0x20
value_early least [] cell apart lt = refl
value_early least (m ∷ more) cell (mark, apart) lt =
    rw (outside m cell (λ reached. absurd (omega (arith, mark.start, lt, reached)))) (value_early (m.end + 1) more cell apart (omega (arith, mark.start, mark.end, lt)))

line_value : (from : ℕ) (marks : List Mark) → AreApart from marks → (cell : ℕ) → from ≤ cell → get_or (mark_cells from marks) (cell - from) 0x20 ≡ value marks cell
unfolding mark_cells
line_value from [] apart cell low = refl
line_value from (m ∷ more) (mark, apart) cell low =
    let n = m.start - from in
    let rest = mark_cells m.end more in
    ⊎_elim
    (λ before.
    front_same n 0x20 (cell - from) 0x20 (mark_body m ++ rest) (omega (arith, before, low))
    ∙ sym (rw (outside m cell (λ reached. absurd (omega (arith, before, reached)))) (value_early (m.end + 1) more cell apart (omega (arith, before, mark.end)))))
    (λ reached.
    let place : cell - from ≡ n + (cell - m.start) = omega (arith, reached, mark.start) in
    let skip = ap (λ k. get_or (spaces n ++ (mark_body m ++ rest)) k 0x20) place ∙ behind_same n 0x20 (cell - m.start) 0x20 (mark_body m ++ rest) in
    ⊎_elim
    (λ within. skip ∙ body_cell m rest cell mark.end reached within ∙ sym (rw (inside m cell reached within) refl))
    (λ past. skip ∙ body_behind m rest cell mark.end past ∙ line_value m.end more (apart_from m.end (m.end + 1) more (omega arith) apart) cell past
    ∙ sym (rw (outside m cell (λ reached. past)) refl))
    (cases_lt cell m.end))
    (cases_lt cell m.start)

value_held : (least : ℕ) (marks : List Mark) → AreApart least marks → (k : ℕ) (d : Mark) → k < length marks → (cell : ℕ) → (get_or marks k d).start ≤ cell → cell < (get_or marks k d).end
    → value marks cell ≡ mark_cell (get_or marks k d) cell
value_held least [] apart k d h cell low high = absurd (omega (arith, h))
value_held least (m ∷ more) (mark, apart) zero d h cell low high = rw (inside m cell low high) refl
value_held least (m ∷ more) (mark, apart) (suc k) d h cell low high =
    let later = starts_from (m.end + 1) more apart k d (omega (arith, h)) in
    rw (outside m cell (λ reached. omega (arith, later.0, low))) (value_held (m.end + 1) more apart k d (omega (arith, h)) cell low high)

value_beside : (marks : List Mark) (cell : ℕ) → All (IsBeside cell) marks → value marks cell ≡ 0x20
value_beside [] cell none = refl
value_beside (m ∷ more) cell none = rw (outside m cell (All-head (IsBeside cell) m more none)) (value_beside more cell (All-tail (IsBeside cell) m more none))

holds_marks : (marks : List Mark) → AreApart 0 marks → HoldsMarks marks (mark_cells 0 marks)
holds_marks marks apart =
    let line : (cell : ℕ) → get_or (mark_cells 0 marks) cell 0x20 ≡ value marks cell = λ cell.
    let whole : cell - 0 ≡ cell = omega arith in
    ap (λ n. get_or (mark_cells 0 marks) n 0x20) (sym whole) ∙ line_value 0 marks apart cell (omega arith) in
    record {
      held = λ k d h cell low high. line cell ∙ value_held 0 marks apart k d h cell low high;
      others = λ cell none. line cell ∙ value_beside marks cell none;
    }

-- ---- the bars before a hanging text

abbrev bar_value : List Mark → ℕ → ℕ
bar_value [] cell = 0x20
bar_value (m ∷ more) cell = if cell == bar_of m then 0x7C else bar_value more cell

-- the first cell behind a bar, or of the line
abbrev behind : Option ℕ → ℕ
behind None = 0
behind (Some bar) = bar + 1

gap_is : (before : Option ℕ) (cell : ℕ) → gap before cell ≡ cell - behind before
gap_is None cell = omega arith
gap_is (Some bar) cell = omega arith

bar_early : (least : ℕ) (marks : List Mark) (cell : ℕ) → AreApart least marks → cell < least → bar_value marks cell ≡ 0x20
bar_early least [] cell apart lt = refl
bar_early least (m ∷ more) cell (mark, apart) lt =
    rw (unlike_lt cell (bar_of m) (omega (arith, mark.start, mark.end, lt))) (bar_early (m.end + 1) more cell apart (omega (arith, mark.start, mark.end, lt)))

bars_value : (before : Option ℕ) (to least : ℕ) (marks : List Mark) → AreApart least marks → behind before ≤ least → (cell : ℕ) → behind before ≤ cell
    → get_or (bars_to before to marks) (cell - behind before) 0x20 ≡ bar_value marks cell
unfolding bars_to
bars_value before to least [] apart le cell low = get_spaces (gap before to) (cell - behind before)
bars_value before to least (m ∷ more) (mark, apart) le cell low =
    let bar = bar_of m in
    let n = gap before bar in
    let next = bars_to (Some bar) to more in
    let size : n ≡ bar - behind before = gap_is before bar in
    let reached : behind before ≤ bar = omega (arith, le, mark.start, mark.end) in
    let end : bar < m.end = omega (arith, mark.end) in
    ⊎_elim
    (λ early.
    front_same n 0x20 (cell - behind before) 0x20 (0x7C ∷ next) (omega (arith, size, early, low))
    ∙ sym (rw (unlike_lt cell bar early) (bar_early (m.end + 1) more cell apart (omega (arith, early, end)))))
    (λ from. ⊎_elim
    (λ late.
    let place : cell - behind before ≡ n + suc (cell - (bar + 1)) = omega (arith, size, late, reached) in
    ap (λ k. get_or (spaces n ++ (0x7C ∷ next)) k 0x20) place ∙ behind_same n 0x20 (suc (cell - (bar + 1))) 0x20 (0x7C ∷ next)
    ∙ bars_value (Some bar) to (m.end + 1) more apart (omega (arith, end)) cell (omega (arith, late))
    ∙ sym (rw (unlike_gt cell bar late) refl))
    (λ upto.
    let is : cell ≡ bar = omega (arith, from, upto) in
    let place : cell - behind before ≡ n + 0 = omega (arith, size, is) in
    ap (λ k. get_or (spaces n ++ (0x7C ∷ next)) k 0x20) place ∙ behind_same n 0x20 0 0x20 (0x7C ∷ next)
    ∙ sym (rw (eq-eqb cell bar is) refl))
    (cases_lt bar cell))
    (cases_lt cell bar)

bars_length : (before : Option ℕ) (to least : ℕ) (marks : List Mark) → AreApart least marks → behind before ≤ least → behind before ≤ to → All (λ m. m.end ≤ to) marks
    → length (bars_to before to marks) ≡ to - behind before
unfolding bars_to
bars_length before to least [] apart le reach ends = length-replicate {A = ℕ} (gap before to) 0x20 ∙ gap_is before to
bars_length before to least (m ∷ more) (mark, apart) le reach ends =
    let bar = bar_of m in
    let n = gap before bar in
    let next = bars_to (Some bar) to more in
    let size : n ≡ bar - behind before = gap_is before bar in
    let here : m.end ≤ to = All-head (λ m. m.end ≤ to) m more ends in
    let rest = bars_length (Some bar) to (m.end + 1) more apart (omega (arith, mark.end)) (omega (arith, here, mark.end)) (All-tail (λ m. m.end ≤ to) m more ends) in
    omega (arith, length-append (spaces n) (0x7C ∷ next), length-replicate {A = ℕ} n 0x20, size, rest, here, le, mark.start, mark.end)

bar_held : (least : ℕ) (marks : List Mark) → AreApart least marks → (k : ℕ) (d : Mark) → k < length marks → bar_value marks (bar_of (get_or marks k d)) ≡ 0x7C
bar_held least [] apart k d h = absurd (omega (arith, h))
bar_held least (m ∷ more) (mark, apart) zero d h = rw (eq-eqb (bar_of m) (bar_of m) refl) refl
bar_held least (m ∷ more) (mark, apart) (suc k) d h =
    let later = starts_from (m.end + 1) more apart k d (omega (arith, h)) in
    rw (unlike_gt (bar_of (get_or more k d)) (bar_of m) (omega (arith, later.0, later.1, mark.end))) (bar_held (m.end + 1) more apart k d (omega (arith, h)))

bar_beside : (marks : List Mark) (cell : ℕ) → All (λ m. ¬ (bar_of m ≡ cell)) marks → bar_value marks cell ≡ 0x20
bar_beside [] cell none = refl
bar_beside (m ∷ more) cell none =
    rw (unlike_ne cell (bar_of m) (All-head (λ m. ¬ (bar_of m ≡ cell)) m more none)) (bar_beside more cell (All-tail (λ m. ¬ (bar_of m ≡ cell)) m more none))

holds_bars : (marks : List Mark) → AreApart 0 marks → (to : ℕ) → All (λ m. m.end ≤ to) marks → HoldsBars marks to (bars_to None to marks)
holds_bars marks apart to ends =
    let line : (cell : ℕ) → get_or (bars_to None to marks) cell 0x20 ≡ bar_value marks cell = λ cell.
    let whole : cell - 0 ≡ cell = omega arith in
    ap (λ n. get_or (bars_to None to marks) n 0x20) (sym whole) ∙ bars_value None to 0 marks apart (omega arith) cell (omega arith) in
    record {
      size = bars_length None to 0 marks apart (omega arith) (omega arith) ends ∙ omega arith;
      held = λ k d h. line (bar_of (get_or marks k d)) ∙ bar_held 0 marks apart k d h;
      others = λ cell none. line cell ∙ bar_beside marks cell none;
    }

-- both laws
pub are_cells : (marks : List Mark) → are_marks None marks ≡ true → AreCells marks
are_cells marks are =
    let apart : AreApart 0 marks = marks_apart None marks are in
    record { cells = holds_marks marks apart; bars = holds_bars marks apart }
