-- No search looks past the end of the window.
use Rattle.std.proofs.Common.{if◌then◌else◌, ◌≡◌, ℕ, ◌+◌, ◌-◌, ◌<◌, ◌≤◌, ◌&&◌, Bool, true, false, List, [], ◌∷◌, ◌++◌, length, get_or, Some, None, refl, sym, ap, subst, ◌∙◌, arith, zero, suc, ltb, leb, eqb, min, ⊎_elim}
use Rattle.std.specs.List.{find}
use Rattle.std.proofs.lemmas.Bool.{cases_lt, and_parts, eqb-true, ltb-true, ltb-false, false≢true}
use Rattle.std.proofs.lemmas.Bool.Decides.{nat_tests}
use Rattle.std.proofs.lemmas.List.{length-append, get_or-append-add, get_or_past}
use Rattle.std.proofs.lemmas.List.Folds.{list_any_at, Any-from_list_any}
use Rattle.std.proofs.lemmas.List.Sorted.{IsPartitionedBy-ltb}
use Rattle.oxc_windows.specs.declared.breaks.LineBreak.{LineBreak}
use Rattle.oxc_windows.specs.Breaks.{AreBreaks, IsBreakList}
use Rattle.oxc_windows.specs.Rows.{row_of, row_start, is_second_byte}
use Rattle.oxc_windows.proofs.Counting.{count_by_splits, false_unless}
use Rattle.oxc_windows.proofs.RowsLemmas.{row_start_after, row_start_past}
use Rattle.oxc_windows.proofs.WindowLemmas.{row_start_mono}
use Rattle.oxc_windows.specs.Window.{is_first_byte, row_further, window_end}
use Rattle.oxc_windows.specs.Held.{Held, past}
use Rattle.oxc_windows.specs.Source.{first_between}
use Rattle.oxc_windows.proofs.ListLemmas.{rising_starts, breaks_right}
use Rattle.oxc_windows.proofs.HeldLemmas.{only_rest, next_of_rest}
use Rattle.oxc_windows.proofs.SeenLemmas.{started, started_splits, start_held, started_held}
use Rattle.oxc_windows.proofs.ExactLemmas.{fits_reached}
use Rattle.oxc_windows.proofs.IndexLemmas.{starts_long}

-- where a break that was found stands in the list
found_index : (len : ℕ) (list : List LineBreak) (top known to : ℕ) (starts : List ℕ) (kept : List LineBreak) (b d : LineBreak) → AreBreaks list
    → Held len list top known starts kept → first_between list known to ≡ Some b → (get_or list (top + length kept) d ≡ b) × (top + length kept < length list)
found_index len list top known to starts kept b d ok h found =
    let parts = subst AreBreaks h.split ok in
    let rest_ok = breaks_right kept h.rest (breaks_right h.front (kept ++ h.rest) parts) in
    let next = next_of_rest known to b h.rest rest_ok h.ahead (sym (only_rest len list top known to starts kept ok h) ∙ found) in
    let whole : list ≡ h.front ++ (kept ++ b ∷ next.0) = h.split ∙ ap (λ r. h.front ++ (kept ++ r)) next.1 in
    let size : length list ≡ length h.front + (length kept + suc (length next.0)) =
    ap length whole ∙ length-append h.front (kept ++ b ∷ next.0) ∙ ap (λ n. length h.front + n) (length-append kept (b ∷ next.0)) in
    let place : length h.front + (length kept + 0) ≡ top + length kept = omega (arith, h.above) in (
      subst (λ k. get_or list k d ≡ b) place
          (ap (λ l. get_or l (length h.front + (length kept + 0)) d) whole ∙ get_or-append-add h.front (kept ++ b ∷ next.0) (length kept + 0) d ∙ get_or-append-add kept (b ∷ next.0) 0 d),
      omega (arith, size, h.above),
    )

-- it starts before the place
starts_early : (known to : ℕ) (b : LineBreak) (rest : List LineBreak) → find (λ c. leb known c.start && ltb c.start to) rest ≡ Some b → b.start < to
starts_early known to b [] e = let no_way : None ≡ Some b = e in cc
starts_early known to b (c ∷ more) e = at_first known to b c more (leb known c.start && ltb c.start to) refl e (starts_early known to b more)
  where
    at_first : (known to : ℕ) (b c : LineBreak) (more : List LineBreak) (said : Bool) → leb known c.start && ltb c.start to ≡ said
        → find (λ c. leb known c.start && ltb c.start to) (c ∷ more) ≡ Some b → (find (λ c. leb known c.start && ltb c.start to) more ≡ Some b → b.start < to) → b.start < to
    at_first known to b c more true s e rest =
        let first : find (λ c. leb known c.start && ltb c.start to) (c ∷ more) ≡ Some c = simp s in
        let both : Some c ≡ Some b = sym first ∙ e in
        let same : c ≡ b = cc in
        subst (λ x. x.start < to) same (ltb-true c.start to (and_parts (leb known c.start) (ltb c.start to) s).1)
    at_first known to b c more false s e rest =
        let later : find (λ c. leb known c.start && ltb c.start to) (c ∷ more) ≡ find (λ c. leb known c.start && ltb c.start to) more = simp s in
        rest (sym later ∙ e)

-- so it ends before what the search may look at
pub found_near : (len : ℕ) (list : List LineBreak) (top known to : ℕ) (starts : List ℕ) (kept : List LineBreak) (b : LineBreak) → AreBreaks list
    → Held len list top known starts kept → first_between list known to ≡ Some b → b.end + 1 ≤ past list to
found_near len list top known to starts kept b ok h found =
    let at = found_index len list top known to starts kept b b ok h found in
    let early = starts_early known to b h.rest (sym (only_rest len list top known to starts kept ok h) ∙ found) in
    let shape : (b.start ≤ b.end) × (b.end ≤ b.start + 1) = subst (λ c. (c.start ≤ c.end) × (c.end ≤ c.start + 1)) at.0 (ok.shape (top + length kept) b at.1) in
    near list to (top + length kept) b b at.1 at.0 early shape (is_second_byte list to) refl
  where
    both : (start end at : ℕ) → end ≡ at → start < at → eqb end at && ltb start at ≡ true
    both start end at e lt = grind (arith, nat_tests)

    near : (list : List LineBreak) (to k : ℕ) (b d : LineBreak) → k < length list → get_or list k d ≡ b → b.start < to → (b.start ≤ b.end) × (b.end ≤ b.start + 1)
        → (said : Bool) → is_second_byte list to ≡ said → b.end + 1 ≤ (if said then to + 1 else to)
    near list to k b d h at early shape true e = omega (arith, early, shape)
    near list to k b d h at early shape false e =
        ⊎_elim (λ lt. omega (arith, lt))
        (λ ge. let ends : b.end ≡ to = omega (arith, ge, early, shape) in
        absurd (false≢true (sym e ∙ list_any_at (λ c. eqb c.end to && ltb c.start to) list k d h (subst (λ c. eqb c.end to && ltb c.start to ≡ true) (sym at) (both b.start b.end to ends early)))))
        (cases_lt b.end to)

-- a break that is wanted ends before the row that is wanted
pub found_most : (len : ℕ) (list : List LineBreak) (top known to want : ℕ) (starts : List ℕ) (kept : List LineBreak) (b : LineBreak) → IsBreakList len list
    → Held len list top known starts kept → first_between list known to ≡ Some b → length kept < want → b.end + 1 ≤ row_start len list (top + want)
found_most len list top known to want starts kept b valid h found less =
    let at = found_index len list top known to starts kept b b valid.ordered h found in
    let e : row_start len list (suc (top + length kept)) ≡ b.end + 1 = row_start_after len list (top + length kept) b at.1 ∙ ap (λ c. c.end + 1) at.0 in
    omega (arith, e, row_start_mono len list (suc (top + length kept)) (top + want) valid (omega (arith, less)))

-- where none is left, it starts at the end
pub none_most : (len : ℕ) (list : List LineBreak) (top known want : ℕ) (starts : List ℕ) (kept : List LineBreak) → IsBreakList len list
    → Held len list top known starts kept → known ≡ len → length kept < want → len ≤ row_start len list (top + want)
none_most len list top known want starts kept valid h whole less =
    let e = start_held len list top known starts kept want valid h (λ past. whole) in
    let long = starts_long len list top known starts kept h in
    let none : get_or starts want len ≡ len = get_or_past starts want len (omega (arith, long, less)) in
    omega (arith, e, none)

not_at_end : (len : ℕ) (list : List LineBreak) → IsBreakList len list → is_second_byte list len ≡ false
not_at_end len list valid =
    false_unless (is_second_byte list len) (λ found.
    let any = Any-from_list_any (λ b. eqb b.end len && ltb b.start len) list found in
    let parts = and_parts (eqb any.1.end len) (ltb any.1.start len) any.4 in
    let ends : (get_or list any.0 any.1).end ≡ len = ap (λ b. b.end) any.3 ∙ eqb-true any.1.end len parts.0 in
    omega (arith, ends, valid.within any.0 any.1 any.2))

past_most : (list : List LineBreak) (to : ℕ) → past list to ≤ to + 1
past_most list to = by_case (is_second_byte list to) to
  where
    by_case : (said : Bool) (to : ℕ) → (if said then to + 1 else to) ≤ to + 1
    by_case true to = omega arith
    by_case false to = omega arith

past_least : (list : List LineBreak) (to : ℕ) → to ≤ past list to
past_least list to = by_case (is_second_byte list to) to
  where
    by_case : (said : Bool) (to : ℕ) → to ≤ (if said then to + 1 else to)
    by_case true to = omega arith
    by_case false to = omega arith

past_end : (len : ℕ) (list : List LineBreak) → IsBreakList len list → past list len ≡ len
past_end len list valid = rw (not_at_end len list valid) refl

-- the breaks from their number on start at the place or later
starts_from : (list : List LineBreak) (o : ℕ) → AreBreaks list → (k : ℕ) (d : LineBreak) → started list o ≤ k → k < length list → o ≤ (get_or list k d).start
unfolding started
starts_from list o ok k d low high = ltb-false _ _ ((count_by_splits (λ b. ltb b.start o) list (IsPartitionedBy-ltb (λ b. b.start) list o (rising_starts list ok))).1 k d low high)

-- the search for the last byte's break looks no further than the window, which ends after a row
near_row : (len : ℕ) (list : List LineBreak) (last after : ℕ) → IsBreakList len list → past list (min len (last + 1)) ≤ row_start len list (started list (last + 1) + after + 1)
near_row len list last after valid =
    let d : LineBreak = record { start = 0; end = 0 } in
    let s = started list (last + 1) in
    let rises = row_start_mono len list (suc s) (s + after + 1) valid (omega arith) in
    ⊎_elim (λ some.
    let e = row_start_after len list s d some in
    let from = starts_from list (last + 1) valid.ordered s d (omega arith) some in
    omega (arith, rises, e, from, (valid.ordered.shape s d some).0, past_most list (min len (last + 1)), min_right len (last + 1)))
    (λ none.
    let e = row_start_past len list (suc s) (omega (arith, none)) in
    ⊎_elim (λ lt. omega (arith, rises, e, past_most list (min len (last + 1)), min_right len (last + 1), lt))
    (λ ge. let whole : min len (last + 1) ≡ len = min_whole len (last + 1) ge in
    let same : past list (min len (last + 1)) ≡ len = ap (past list) whole ∙ past_end len list valid in omega (arith, rises, e, same)) (cases_lt (last + 1) len))
    (cases_lt s (length list))
  where
    min_right : (a b : ℕ) → min a b ≤ b
    min_right a b = grind arith

    min_whole : (a b : ℕ) → a ≤ b → min a b ≡ a
    min_whole a b h = grind arith

-- or after the last byte
near_byte : (len : ℕ) (list : List LineBreak) (last : ℕ) → IsBreakList len list → (said first : Bool) → is_second_byte list (min len (last + 1)) ≡ said → is_first_byte list last ≡ first
    → (if said then min len (last + 1) + 1 else min len (last + 1)) ≤ (if first then last + 2 else min len (last + 1))
near_byte len list last valid true true e f = omega (arith, min_right len (last + 1))
  where
    min_right : (a b : ℕ) → min a b ≤ b
    min_right a b = grind arith
near_byte len list last valid false true e f = omega (arith, min_right len (last + 1))
  where
    min_right : (a b : ℕ) → min a b ≤ b
    min_right a b = grind arith
near_byte len list last valid false false e f = omega arith
near_byte len list last valid true false e f =
    let o = min len (last + 1) in
    let any = Any-from_list_any (λ b. eqb b.end o && ltb b.start o) list e in
    let parts = and_parts (eqb any.1.end o) (ltb any.1.start o) any.4 in
    let b = get_or list any.0 any.1 in
    let ends : b.end ≡ o = ap (λ b. b.end) any.3 ∙ eqb-true any.1.end o parts.0 in
    let starts : b.start < o = subst (λ b. b.start < o) (sym any.3) (ltb-true any.1.start o parts.1) in
    let inside = valid.within any.0 any.1 any.2 in
    let whole : o ≡ last + 1 = min_small len (last + 1) (omega (arith, ends, inside)) in
    absurd (false≢true (sym f ∙ list_any_at (λ b. eqb b.start last && eqb b.end (last + 1)) list any.0 any.1 any.2
    (both b.start b.end last (omega (arith, whole, ends, starts, (valid.ordered.shape any.0 any.1 any.2).1)) (omega (arith, ends, whole)))))
  where
    min_small : (a b : ℕ) → min a b < a → min a b ≡ b
    min_small a b h = grind arith

    both : (start end last : ℕ) → start ≡ last → end ≡ last + 1 → eqb start last && eqb end (last + 1) ≡ true
    both start end last e f = grind (arith, nat_tests)

end_row_of : (r s after further : ℕ) → s ≡ r + further → r + after + further + 1 ≡ s + after + 1
end_row_of r s after further e = omega (arith, e)

pub window_row : (len : ℕ) (list : List LineBreak) (after end : ℕ) → AreBreaks list → 0 < after → window_end len list after end ≡ row_start len list (started list (end - 1 + 1) + after + 1)
unfolding window_end row_start
window_row len list zero end ok h = absurd (omega (arith, h))
window_row len list (suc a) end ok h =
    rw (not_zero a) (ap (row_start len list) (end_row_of (row_of list (end - 1)) (started list (end - 1 + 1)) (suc a) (row_further list (end - 1)) (started_splits list (end - 1) ok)))
  where
    not_zero : (a : ℕ) → eqb (suc a) 0 ≡ false
    not_zero a = grind (arith, nat_tests)

pub near_end : (len : ℕ) (list : List LineBreak) (after end : ℕ) → IsBreakList len list → past list (min len (end - 1 + 1)) ≤ window_end len list after end
unfolding window_end
near_end len list zero end valid = near_byte len list (end - 1) valid (is_second_byte list (min len (end - 1 + 1))) (is_first_byte list (end - 1)) refl refl
near_end len list (suc a) end valid = subst (λ e. past list (min len (end - 1 + 1)) ≤ e) (sym (window_row len list (suc a) end valid.ordered (omega arith))) (near_row len list (end - 1) (suc a) valid)

-- the window ends at the span's end or later
pub end_low : (len : ℕ) (list : List LineBreak) (after end : ℕ) → IsBreakList len list → end ≤ len → end ≤ window_end len list after end
end_low len list after end valid within = omega (arith, near_end len list after end valid, past_least list (min len (end - 1 + 1)), least len end within)
  where
    least : (len end : ℕ) → end ≤ len → end ≤ min len (end - 1 + 1)
    least len end h = grind arith

-- the row that is wanted, by what is held
pub want_row : (len : ℕ) (list : List LineBreak) (top known : ℕ) (starts : List ℕ) (kept : List LineBreak) (to after : ℕ) → IsBreakList len list
    → Held len list top known starts kept → row_start len list top ≤ to → min len to ≤ known → top + (started kept to + after + 1) ≡ started list to + after + 1
want_row len list top known starts kept to after valid h low reached =
    let e = started_held len list top known starts kept to valid h (omega (arith, low, h.begins)) (fits_reached len to known h.within reached) in
    omega (arith, e)
