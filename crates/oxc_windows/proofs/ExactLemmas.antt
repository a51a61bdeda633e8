-- An index that has searched far enough sees the window of the definition.
use Rattle.std.proofs.Common.{if◌then◌else◌, ◌≡◌, ℕ, ◌+◌, ◌-◌, ◌<◌, ◌≤◌, ◌&&◌, Bool, true, false, List, length, map, get_or, Some, refl, sym, ap, subst, ◌∙◌, arith, zero, suc, eqb, min, ⊎_elim}
use Rattle.std.proofs.lemmas.Bool.{cases_lt, and_parts, eqb-true, le-ltb}
use Rattle.std.proofs.lemmas.Bool.Decides.{nat_tests}
use Rattle.std.proofs.lemmas.List.{get_or-map, get_or_past, length-map}
use Rattle.std.proofs.lemmas.List.Folds.{Any-from_list_any}
use Rattle.std.proofs.Math.Dec.{eqb-suc-zero as not_zero}
use Rattle.oxc_windows.specs.declared.breaks.LineBreak.{LineBreak}
use Rattle.oxc_windows.specs.Breaks.{AreBreaks, IsBreakList}
use Rattle.oxc_windows.specs.Rows.{row_of, row_start, settled, byte_column, is_second_byte}
use Rattle.oxc_windows.proofs.RowsLemmas.{row_le, row_start_after, ends_before_row, row_start_le}
use Rattle.oxc_windows.proofs.BackLemmas.{cut_inside}
use Rattle.oxc_windows.specs.declared.window.Window.{Window}
use Rattle.oxc_windows.specs.Window.{is_first_byte, row_further, last_byte, window_of, window_end}
use Rattle.oxc_windows.specs.Held.{Held}
use Rattle.oxc_windows.proofs.SeenLemmas.{started, row_held, started_held, settled_held, first_held, start_held, started_splits, kept_breaks}

-- where the window ends, by the breaks that are held
unfoldable pub end_by : ℕ → List ℕ → List LineBreak → ℕ → ℕ → ℕ
end_by len starts kept after end =
    let last = last_byte end in
    if eqb after 0
    then (if is_first_byte kept last then last + 2 else min len (last + 1))
    else get_or starts (started kept (last + 1) + after + 1) len

-- the window, by the breaks that are held
unfoldable pub seen_by : ℕ → ℕ → List ℕ → List LineBreak → ℕ → ℕ → ℕ → ℕ → Window
seen_by len top starts kept before after start end =
    let stop = end_by len starts kept after end in
    record {
      begin = if eqb before 0 then start else get_or starts (top + row_of kept start - before - top) len;
      end = stop;
      line = top + row_of kept start - before;
      column = if eqb before 0 then settled kept start - get_or starts (row_of kept start) len else 0;
      line_count = top + row_of kept stop;
    }

-- the number of the row at whose start the window ends
end_row : (r s t top after further : ℕ) → s ≡ r + further → s ≡ top + t → r + after + further + 1 ≡ top + (t + after + 1)
end_row r s t top after further e f = omega (arith, e, f)

end_some : (len : ℕ) (list : List LineBreak) (top known : ℕ) (starts : List ℕ) (kept : List LineBreak) (after end : ℕ) → IsBreakList len list
    → (h : Held len list top known starts kept) → h.begin ≤ end → (known < end - 1 + 1 → known ≡ len)
    → (length kept < started kept (end - 1 + 1) + after + 1 → known ≡ len)
    → row_start len list (row_of list (end - 1) + after + row_further list (end - 1) + 1) ≡ get_or starts (started kept (end - 1 + 1) + after + 1) len
end_some len list top known starts kept after end valid h low reached gathered =
    ap (row_start len list) (end_row (row_of list (end - 1)) (started list (end - 1 + 1)) (started kept (end - 1 + 1)) top after (row_further list (end - 1))
    (started_splits list (end - 1) valid.ordered)
    (started_held len list top known starts kept (end - 1 + 1) valid h (omega (arith, low)) reached))
    ∙ start_held len list top known starts kept (started kept (end - 1 + 1) + after + 1) valid h gathered

pub end_exact : (len : ℕ) (list : List LineBreak) (top known : ℕ) (starts : List ℕ) (kept : List LineBreak) (after end : ℕ) → IsBreakList len list
    → (h : Held len list top known starts kept) → h.begin ≤ end → (known < end - 1 + 1 → known ≡ len)
    → (0 < after → length kept < started kept (end - 1 + 1) + after + 1 → known ≡ len)
    → window_end len list after end ≡ end_by len starts kept after end
unfolding end_by window_end
end_exact len list top known starts kept zero end valid h low reached gathered =
    ap (λ v. if v then end - 1 + 2 else min len (end - 1 + 1)) (first_held len list top known starts kept (end - 1) valid h (omega (arith, low)) reached)
end_exact len list top known starts kept (suc a) end valid h low reached gathered =
    rw (not_zero a) (end_some len list top known starts kept (suc a) end valid h low reached (gathered (omega arith)))

-- the starts that are held lie from the first to the known place
starts_bounds : (len : ℕ) (list : List LineBreak) (top known : ℕ) (starts : List ℕ) (kept : List LineBreak) (i : ℕ) → AreBreaks list
    → (h : Held len list top known starts kept) → (length kept < i → known ≡ len) → (h.begin ≤ get_or starts i len) × (get_or starts i len ≤ known)
starts_bounds len list top known starts kept zero ok h all =
    let e : get_or starts 0 len ≡ h.begin = ap (λ s. get_or s 0 len) h.starts_are in (omega (arith, e), omega (arith, e, h.ordered))
starts_bounds len list top known starts kept (suc j) ok h all =
    ⊎_elim (λ lt.
    let d : LineBreak = record { start = 0; end = 0 } in
    let e : get_or starts (suc j) len ≡ (get_or kept j d).end + 1 = ap (λ s. get_or s (suc j) len) h.starts_are ∙ get_or-map (λ b. b.end + 1) kept j d len lt in
    (omega (arith, e, h.low j d lt, ((kept_breaks len list top known starts kept ok h).shape j d lt).0), omega (arith, e, h.high j d lt)))
    (λ ge.
    let end : known ≡ len = all (omega (arith, ge)) in
    let e : get_or starts (suc j) len ≡ len = ap (λ s. get_or s (suc j) len) h.starts_are ∙ get_or_past (map (λ b. b.end + 1) kept) j len (simp (length-map) ge) in
    (omega (arith, e, end, h.ordered), omega (arith, e, end)))
    (cases_lt j (length kept))

-- with no row asked after it, the window ends within what is known
narrow_bounds : (len : ℕ) (list : List LineBreak) (top known : ℕ) (starts : List ℕ) (kept : List LineBreak) (last : ℕ) → AreBreaks list
    → (h : Held len list top known starts kept) → h.begin ≤ last + 1 → h.begin ≤ len → (known < last + 1 → known ≡ len)
    → (said : Bool) → is_first_byte kept last ≡ said
    → (h.begin ≤ (if said then last + 2 else min len (last + 1))) × ((if said then last + 2 else min len (last + 1)) ≤ known)
narrow_bounds len list top known starts kept last ok h low fits reached true e =
    let found = Any-from_list_any (λ b. eqb b.start last && eqb b.end (last + 1)) kept e in
    let parts = and_parts (eqb found.1.start last) (eqb found.1.end (last + 1)) found.4 in
    let high : found.1.end < known = subst (λ b. b.end < known) found.3 (h.high found.0 found.1 found.2) in
    (omega (arith, low), omega (arith, high, eqb-true found.1.end (last + 1) parts.1))
narrow_bounds len list top known starts kept last ok h low fits reached false e =
    (min_from h.begin len (last + 1) fits low, ⊎_elim (λ lt. min_upto_left len (last + 1) known (omega (arith, reached lt))) (λ ge. min_upto_right len (last + 1) known ge) (cases_lt known (last + 1)))
  where
    min_from : (a b c : ℕ) → a ≤ b → a ≤ c → a ≤ min b c
    min_from a b c h g = grind arith

    min_upto_left : (b c k : ℕ) → b ≤ k → min b c ≤ k
    min_upto_left b c k h = grind arith

    min_upto_right : (b c k : ℕ) → c ≤ k → min b c ≤ k
    min_upto_right b c k h = grind arith

pub end_bounds : (len : ℕ) (list : List LineBreak) (top known : ℕ) (starts : List ℕ) (kept : List LineBreak) (after end : ℕ) → IsBreakList len list
    → (h : Held len list top known starts kept) → h.begin ≤ end → end ≤ len → (known < end - 1 + 1 → known ≡ len)
    → (0 < after → length kept < started kept (end - 1 + 1) + after + 1 → known ≡ len)
    → (h.begin ≤ end_by len starts kept after end) × (end_by len starts kept after end ≤ known)
unfolding end_by
end_bounds len list top known starts kept zero end valid h low within reached gathered =
    narrow_bounds len list top known starts kept (end - 1) valid.ordered h (omega (arith, low)) (omega (arith, low, within)) reached (is_first_byte kept (end - 1)) refl
end_bounds len list top known starts kept (suc a) end valid h low within reached gathered =
    rw (not_zero a) (starts_bounds len list top known starts kept (started kept (end - 1 + 1) + suc a + 1) valid.ordered h (gathered (omega arith)))

abbrev made : ℕ → ℕ → ℕ → ℕ → ℕ → Window
made a b c d e = record { begin = a; end = b; line = c; column = d; line_count = e }

same_window : (a b c d e a' b' c' d' e' : ℕ) → a ≡ a' → b ≡ b' → c ≡ c' → d ≡ d' → e ≡ e' → Some (made a b c d e) ≡ Some (made a' b' c' d' e')
same_window a b c d e a' b' c' d' e' p q r s t =
    ap (λ v. Some (made v b c d e)) p ∙ ap (λ v. Some (made a' v c d e)) q ∙ ap (λ v. Some (made a' b' v d e)) r ∙ ap (λ v. Some (made a' b' c' v e)) s ∙ ap (λ v. Some (made a' b' c' d' v)) t

pub seen_exact : (len : ℕ) (list : List LineBreak) (top known : ℕ) (starts : List ℕ) (kept : List LineBreak) (before after start end : ℕ) → IsBreakList len list
    → (h : Held len list top known starts kept) → h.begin ≤ start → top ≤ row_of list start - before → start ≤ end → end ≤ len
    → (known < end - 1 + 1 → known ≡ len)
    → (0 < after → length kept < started kept (end - 1 + 1) + after + 1 → known ≡ len)
    → window_of len list before after start end ≡ Some (seen_by len top starts kept before after start end)
unfolding window_of seen_by byte_column
seen_exact len list top known starts kept before after start end valid h low line ordered within reached gathered =
    let upto : start ≤ known = ⊎_elim (λ lt. omega (arith, reached lt, ordered, within)) (λ ge. omega (arith, ge, ordered)) (cases_lt known (end - 1 + 1)) in
    let here = row_held len list top known starts kept start valid.ordered h low upto in
    let few = row_le kept start in
    let first : row_of list start - before ≡ top + row_of kept start - before = ap (λ r. r - before) here in
    let place : top + (top + row_of kept start - before - top) ≡ row_of list start - before = omega (arith, here, line) in
    let begins : row_start len list (row_of list start - before) ≡ get_or starts (top + row_of kept start - before - top) len =
    ap (row_start len list) (sym place) ∙ start_held len list top known starts kept (top + row_of kept start - before - top) valid h (λ past. absurd (omega (arith, past, few))) in
    let own : row_start len list (row_of list start) ≡ get_or starts (row_of kept start) len =
    ap (row_start len list) here ∙ start_held len list top known starts kept (row_of kept start) valid h (λ past. absurd (omega (arith, past, few))) in
    let settles = settled_held len list top known starts kept start valid.ordered h low upto in
    let stop = end_exact len list top known starts kept after end valid h (omega (arith, low, ordered)) reached gathered in
    let bounds = end_bounds len list top known starts kept after end valid h (omega (arith, low, ordered)) within reached gathered in
    let count : row_of list (window_end len list after end) ≡ top + row_of kept (end_by len starts kept after end) =
    ap (row_of list) stop ∙ row_held len list top known starts kept (end_by len starts kept after end) valid.ordered h bounds.0 bounds.1 in
    rw (le-ltb len end within)
    (same_window _ _ _ _ _ _ _ _ _ _
    (ap (λ r. if eqb before 0 then start else r) begins)
    stop
    first
    (ap (λ v. if eqb before 0 then v else 0) (ap (λ a. a - row_start len list (row_of list start)) settles ∙ ap (λ b. settled kept start - b) own))
    count)

-- a row at an offset or above begins at the offset or before
pub begin_low : (len : ℕ) (list : List LineBreak) (top o : ℕ) → AreBreaks list → top ≤ row_of list o → row_start len list top ≤ o
unfolding row_start
begin_low len list zero o ok h = omega arith
begin_low len list (suc k) o ok h =
    let d : LineBreak = record { start = 0; end = 0 } in
    omega (arith, row_start_after len list k d (omega (arith, h, row_le list o)), ends_before_row list o ok k d (omega (arith, h)))

-- the row of an offset begins where the offset counts or before
pub column_low : (len : ℕ) (list : List LineBreak) (o : ℕ) → AreBreaks list → (said : Bool) → is_second_byte list o ≡ said → row_start len list (row_of list o) ≤ settled list o
unfolding settled
column_low len list o ok true e =
    let cut = cut_inside list o ok e in
    let low = row_start_le len list (o - 1) (row_of list o) ok cut.0.same_row in
    rw e low
column_low len list o ok false e = rw e (row_start_le len list o (row_of list o) ok refl)

-- breaks that start before a known place stay as many
pub started_same : (len : ℕ) (list : List LineBreak) (top known more : ℕ) (starts next : List ℕ) (kept longer : List LineBreak) (to : ℕ) → IsBreakList len list
    → Held len list top known starts kept → Held len list top more next longer → row_start len list top ≤ to → min len to ≤ known → known ≤ more
    → started longer to ≡ started kept to
started_same len list top known more starts next kept longer to valid h g low reached further =
    let first = started_held len list top known starts kept to valid h (omega (arith, low, h.begins)) (fits len to known h.within reached) in
    let second = started_held len list top more next longer to valid g (omega (arith, low, g.begins)) (fits len to more g.within (omega (arith, reached, further))) in
    omega (arith, first, second)
  where
    fits : (len to known : ℕ) → known ≤ len → min len to ≤ known → known < to → known ≡ len
    fits len to known within reached lt = grind arith

-- the part that was known before
pub fits_reached : (len to known : ℕ) → known ≤ len → min len to ≤ known → known < to → known ≡ len
fits_reached len to known within reached lt = grind arith
