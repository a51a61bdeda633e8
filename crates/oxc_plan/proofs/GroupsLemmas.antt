-- Groups: there is one division into them, and their windows lie apart.
use Rattle.std.proofs.Common.{◌≡◌, ℕ, zero, suc, ◌+◌, ◌-◌, ◌<◌, ◌≤◌, List, [], ◌∷◌, length, ◌++◌, append_assoc, get_or, take, drop, fold, max, refl, sym, ap, subst, ◌∙◌, arith, ⊎_elim, inl, inr, Bool, true, false, not, ltb, All}
use Rattle.std.specs.List.{position_or_len, range_with_len}
use Rattle.std.specs.declared.ops.Range.{Range}
use Rattle.std.proofs.lemmas.Bool.{cases_lt, cases_Bool, ltb-true, ltb-false}
use Rattle.std.proofs.lemmas.List.FromFn.{length-range_with_len, get_or-range_with_len}
use Rattle.std.proofs.Math.Seq.{drop-cons}
use Rattle.std.proofs.lemmas.List.{drop_all, length-drop, take_more, get_or-drop}
use Rattle.std.proofs.lemmas.List.Elements.{All-nil, All-cons}
use Rattle.std.proofs.lemmas.List.Kept.{AllPairs-cons}
use Rattle.std.proofs.lemmas.List.Sums.{fold-append, prefix_len-le-length, fails_before_first, passes_at_first}
use Rattle.oxc_span.specs.declared.span.Span.{Span}
use Rattle.oxc_windows.specs.declared.breaks.LineBreak.{LineBreak}
use Rattle.oxc_windows.specs.Breaks.{IsBreakList}
use Rattle.oxc_windows.specs.Rows.{row_of}
use Rattle.oxc_windows.specs.Window.{row_further, window_begin, window_end}
use Rattle.oxc_windows.proofs.RowsLemmas.{row_le, ends_before_row, ends_from_row}
use Rattle.oxc_windows.proofs.WindowLemmas.{row_start_mono, row_start_before, row_start_past_last, row_start_within}
use Rattle.oxc_plan.specs.Order.{AreOrderedSpans}
use Rattle.oxc_plan.specs.Groups.{AreApart, AreGroups, HoldsItsSpans, IsGroup, group_end, group_window, groups_from, groups_of, largest_end, reach, span_at, span_window}

-- of two groups with one beginning, neither ends earlier
group_le : (len : ℕ) (breaks : List LineBreak) (spans : List Span) (first a b : ℕ) → IsGroup len breaks spans first a → IsGroup len breaks spans first b → b ≤ a
group_le len breaks spans first a b one other =
    ⊎_elim (λ lt. absurd (omega (arith, one.full (omega (arith, other.within)), other.joined a one.some lt))) (λ ge. ge) (cases_lt a b)

same_end : (len : ℕ) (breaks : List LineBreak) (spans : List Span) (first a b : ℕ) → IsGroup len breaks spans first a → IsGroup len breaks spans first b → a ≡ b
same_end len breaks spans first a b one other = omega (arith, group_le len breaks spans first a b one other, group_le len breaks spans first b a other one)

pub same_range : (a b : Range ℕ) → a.start ≡ b.start → a.end ≡ b.end → a ≡ b
same_range a b start end = λ i. record { start = start i; end = end i }

-- there is one division into groups
pub same_groups : (len : ℕ) (breaks : List LineBreak) (spans : List Span) (from : ℕ) (xs ys : List (Range ℕ)) → AreGroups len breaks spans from xs → AreGroups len breaks spans from ys → xs ≡ ys
same_groups len breaks spans from [] [] a b = refl
same_groups len breaks spans from [] (y ∷ ys) a b = absurd (omega (arith, a, b.0, b.1.some, b.1.within))
same_groups len breaks spans from (x ∷ xs) [] a b = absurd (omega (arith, b, a.0, a.1.some, a.1.within))
same_groups len breaks spans from (x ∷ xs) (y ∷ ys) a b =
    let start : x.start ≡ y.start = omega (arith, a.0, b.0) in
    let end : x.end ≡ y.end = same_end len breaks spans y.start x.end y.end (subst (λ k. IsGroup len breaks spans k x.end) start a.1) b.1 in
    let rest = same_groups len breaks spans y.end xs ys (subst (λ k. AreGroups len breaks spans k xs) end a.2) b.2 in
    ap (λ r. r ∷ xs) (same_range x y start end) ∙ ap (λ l. y ∷ l) rest

-- one span more
no_span : Span
no_span = record { start = 0; end = 0 }

pub largest_end_more : (spans : List Span) (first past : ℕ) → first ≤ past → past < length spans → largest_end spans first (past + 1) ≡ max (largest_end spans first past) (span_at spans past).end
unfolding largest_end no_span
largest_end_more spans first past le lt =
    let most : ℕ → Span → ℕ = λ m s. max m s.end in
    let n = past - first in
    let rest = drop first spans in
    let step : past + 1 - first ≡ n + 1 = omega arith in
    let place : first + n ≡ past = omega arith in
    let short : n < length rest = rw length-drop (omega arith) in
    ap (λ k. fold most 0 (take k rest)) step ∙ ap (fold most 0) (take_more rest n no_span short) ∙ fold-append most 0 (take n rest) (get_or rest n no_span ∷ [])
    ∙ ap (λ s. max (fold most 0 (take n rest)) s.end) (get_or-drop first spans n no_span ∙ ap (λ k. get_or spans k no_span) place)

largest_end_none : (spans : List Span) (first : ℕ) → largest_end spans first first ≡ 0
unfolding largest_end
largest_end_none spans first = let none : first - first ≡ 0 = omega arith in rw none refl

pub largest_end_one : (spans : List Span) (first : ℕ) → first < length spans → largest_end spans first (first + 1) ≡ (span_at spans first).end
largest_end_one spans first lt = omega (arith, largest_end_more spans first first (omega arith) lt, largest_end_none spans first)

-- so many spans, one after another
reaches_end : (spans : List Span) (first n at : ℕ) → first ≤ at → at < first + n → first + n ≤ length spans → (span_at spans at).end ≤ largest_end spans first (first + n)
reaches_end spans first zero at low high within = absurd (omega arith)
reaches_end spans first (suc n) at low high within =
    let one_more : first + n + 1 ≡ first + suc n = omega arith in
    let more = subst (λ k. largest_end spans first k ≡ max (largest_end spans first (first + n)) (span_at spans (first + n)).end) one_more (largest_end_more spans first (first + n) (omega arith) (omega arith)) in
    ⊎_elim (λ before. omega (arith, more, reaches_end spans first n at low before (omega arith)))
    (λ from. let same : at ≡ first + n = omega arith in omega (arith, more, ap (λ k. (span_at spans k).end) same))
    (cases_lt at (first + n))

stays_within : (spans : List Span) (first n len : ℕ) → All (λ s. (s.start ≤ s.end) × (s.end ≤ len)) spans → first + n ≤ length spans → largest_end spans first (first + n) ≤ len
stays_within spans first zero len all within =
    let same : first + 0 ≡ first = omega arith in omega (arith, ap (largest_end spans first) same, largest_end_none spans first)
stays_within spans first (suc n) len all within =
    let one_more : first + n + 1 ≡ first + suc n = omega arith in
    let more = subst (λ k. largest_end spans first k ≡ max (largest_end spans first (first + n)) (span_at spans (first + n)).end) one_more (largest_end_more spans first (first + n) (omega arith) (omega arith)) in
    omega (arith, more, stays_within spans first n len all (omega arith), (all (first + n) (record { start = 0; end = 0 }) (omega arith)).1)

pub largest_end_reaches : (spans : List Span) (first past at : ℕ) → first ≤ at → at < past → past ≤ length spans → (span_at spans at).end ≤ largest_end spans first past
largest_end_reaches spans first past at low high within =
    let place : first + (past - first) ≡ past = omega arith in
    subst (λ k. (span_at spans at).end ≤ largest_end spans first k) place (reaches_end spans first (past - first) at low (omega arith) (omega arith))

pub largest_end_within : (spans : List Span) (first past len : ℕ) → All (λ s. (s.start ≤ s.end) × (s.end ≤ len)) spans → first ≤ past → past ≤ length spans → largest_end spans first past ≤ len
largest_end_within spans first past len all le within =
    let place : first + (past - first) ≡ past = omega arith in
    subst (λ k. largest_end spans first k ≤ len) place (stays_within spans first (past - first) len all (omega arith))

-- rows of later offsets are no earlier
row_of_mono : (breaks : List LineBreak) (a b : ℕ) (len : ℕ) → IsBreakList len breaks → a ≤ b → row_of breaks a ≤ row_of breaks b
row_of_mono breaks a b len ok le =
    ⊎_elim
    (λ lt.
    let d : LineBreak = record { start = 0; end = 0 } in
    let few = row_le breaks a in
    absurd (omega (arith, ends_before_row breaks a ok.ordered (row_of breaks b) d lt, ends_from_row breaks b ok.ordered (row_of breaks b) d (omega arith) (omega arith))))
    (λ ge. ge) (cases_lt (row_of breaks b) (row_of breaks a))

-- a window with one row of context round a span: where it begins and ends
pub begin_before : (len : ℕ) (breaks : List LineBreak) (start : ℕ) → IsBreakList len breaks → window_begin len breaks 1 start ≤ start
begin_before len breaks start ok = row_start_before len breaks start (row_of breaks start - 1) ok (omega arith)

begin_mono : (len : ℕ) (breaks : List LineBreak) (a b : ℕ) → IsBreakList len breaks → a ≤ b → window_begin len breaks 1 a ≤ window_begin len breaks 1 b
begin_mono len breaks a b ok le = row_start_mono len breaks (row_of breaks a - 1) (row_of breaks b - 1) ok (omega (arith, row_of_mono breaks a b len ok le))

end_reaches : (len : ℕ) (breaks : List LineBreak) (end : ℕ) → IsBreakList len breaks → end ≤ len → end ≤ window_end len breaks 1 end
unfolding window_end
end_reaches len breaks end ok le = row_start_past_last len breaks end (row_of breaks (end - 1) + 1 + row_further breaks (end - 1) + 1) ok le (omega arith)

end_within : (len : ℕ) (breaks : List LineBreak) (end : ℕ) → IsBreakList len breaks → window_end len breaks 1 end ≤ len
unfolding window_end
end_within len breaks end ok = row_start_within len breaks (row_of breaks (end - 1) + 1 + row_further breaks (end - 1) + 1) ok

-- the window of a group ends no later than that of any span after the group begins
pub group_before : (len : ℕ) (breaks : List LineBreak) (spans : List Span) (first past at : ℕ) → IsBreakList len breaks → AreOrderedSpans len spans
    → IsGroup len breaks spans first past → past ≤ at → at < length spans
    → window_end len breaks 1 (largest_end spans first past) ≤ window_begin len breaks 1 (span_at spans at).start
group_before len breaks spans first past at ok order group le lt =
    let end = window_end len breaks 1 (largest_end spans first past) in
    let d : Span = record { start = 0; end = 0 } in
    let later = row_of_mono breaks (span_at spans past).start (span_at spans at).start len ok (order.ascend past at d le lt) in
    let before = row_of_mono breaks (end - 1) end len ok (omega arith) in
    row_start_past_last len breaks end (row_of breaks (span_at spans at).start - 1) ok (end_within len breaks (largest_end spans first past) ok)
    (omega (arith, group.full (omega (arith, le, lt)), later, before))

-- groups from a place on begin there or later
groups_begin : (len : ℕ) (breaks : List LineBreak) (spans : List Span) (from : ℕ) (groups : List (Range ℕ)) → AreGroups len breaks spans from groups
    → All (λ g. (from ≤ g.start) × (g.start < length spans)) groups
groups_begin len breaks spans from [] are = All-nil (λ g. (from ≤ g.start) × (g.start < length spans))
groups_begin len breaks spans from (group ∷ groups) are =
    let start = are.0 in
    let some = are.1.some in
    let within = are.1.within in
    let rest = groups_begin len breaks spans group.end groups are.2 in
    All-cons (λ g. (from ≤ g.start) × (g.start < length spans)) group groups (omega (arith, start), omega (arith, some, within))
    (λ k d h. let one = rest k d h in (omega (arith, one.0, start, some), one.1))

pub groups_apart : (len : ℕ) (breaks : List LineBreak) (spans : List Span) (from : ℕ) (groups : List (Range ℕ)) → IsBreakList len breaks → AreOrderedSpans len spans
    → AreGroups len breaks spans from groups → AreApart len breaks spans groups
groups_apart len breaks spans from [] ok order are = λ i j d lt h. absurd (omega arith)
groups_apart len breaks spans from (group ∷ groups) ok order are =
    AllPairs-cons (λ a b. (group_window len breaks spans a).end ≤ (group_window len breaks spans b).begin) group groups
    (λ k d h. let one = groups_begin len breaks spans group.end groups are.2 k d h in
    group_before len breaks spans group.start group.end (get_or groups k d).start ok order are.1 one.0 one.1)
    (groups_apart len breaks spans group.end groups ok order are.2)

-- a group's window holds its spans
group_holds : (len : ℕ) (breaks : List LineBreak) (spans : List Span) (group : Range ℕ) → IsBreakList len breaks → AreOrderedSpans len spans
    → IsGroup len breaks spans group.start group.end → HoldsItsSpans len breaks spans group
group_holds len breaks spans group ok order is at low high =
    let d : Span = record { start = 0; end = 0 } in
    let largest = largest_end spans group.start group.end in (
      omega (arith, begin_before len breaks (span_at spans group.start).start ok, order.ascend group.start at d low (omega (arith, is.within))),
      omega (
        arith,
        largest_end_reaches spans group.start group.end at low high is.within,
        end_reaches len breaks largest ok (largest_end_within spans group.start group.end len order.within (omega (arith, is.some)) is.within),
      ),
    )

pub groups_hold : (len : ℕ) (breaks : List LineBreak) (spans : List Span) (from : ℕ) (groups : List (Range ℕ)) → IsBreakList len breaks → AreOrderedSpans len spans
    → AreGroups len breaks spans from groups → All (HoldsItsSpans len breaks spans) groups
groups_hold len breaks spans from [] ok order are = All-nil (HoldsItsSpans len breaks spans)
groups_hold len breaks spans from (group ∷ groups) ok order are =
    All-cons (HoldsItsSpans len breaks spans) group groups (group_holds len breaks spans group ok order are.1) (groups_hold len breaks spans group.end groups ok order are.2)

-- the first place out of reach ends a group
pub group_end_is : (len : ℕ) (breaks : List LineBreak) (spans : List Span) (first : ℕ) → first < length spans → IsGroup len breaks spans first (group_end len breaks spans first)
unfolding group_end
group_end_is len breaks spans first lt =
    let count = length spans - (first + 1) in
    let later = range_with_len (first + 1) count in
    let p : ℕ → Bool = λ at. ltb (reach len breaks spans first at) (span_window len breaks spans at).line in
    let n = position_or_len p later in
    let size : length later ≡ count = length-range_with_len (first + 1) count in
    let short : n ≤ length later = prefix_len-le-length (λ at. not (p at)) later in
    record {
      some = omega arith;
      within = omega (arith, short, size);
      joined = λ at low high.
          let k = at - (first + 1) in
          let place : get_or later k 0 ≡ at = get_or-range_with_len (first + 1) count k 0 (omega (arith, short, size)) ∙ omega arith in
          ltb-false _ _ (subst (λ m. p m ≡ false) place (fails_before_first p later k 0 (omega arith)));
      full = λ more.
          let place : get_or later n 0 ≡ first + 1 + n = get_or-range_with_len (first + 1) count n 0 (omega arith) in
          ltb-true _ _ (subst (λ m. p m ≡ true) place (passes_at_first p later 0 (omega (arith, size))));
    }

groups_from_are : (len : ℕ) (breaks : List LineBreak) (spans : List Span) (most from : ℕ) → from ≤ length spans → length spans ≤ from + most → AreGroups len breaks spans from (groups_from len breaks spans from most)
unfolding groups_from
groups_from_are len breaks spans zero from le enough = omega arith
groups_from_are len breaks spans (suc most) from le enough =
    elim (cases_Bool (ltb from (length spans))) [
      | inl more ↦
          let is = group_end_is len breaks spans from (ltb-true _ _ more) in
          rw more (refl, is, groups_from_are len breaks spans most (group_end len breaks spans from) is.within (omega (arith, enough, is.some)))
      | inr done ↦ rw done (omega (arith, ltb-false _ _ done, le))
    ]

-- the one division into groups is one
pub groups_of_are : (len : ℕ) (breaks : List LineBreak) (spans : List Span) → AreGroups len breaks spans 0 (groups_of len breaks spans)
unfolding groups_of
groups_of_are len breaks spans = groups_from_are len breaks spans (length spans) 0 (omega arith) (omega arith)

-- one group more
pub group_added : (len : ℕ) (breaks : List LineBreak) (spans : List Span) (first past : ℕ) (found rest : List (Range ℕ)) → IsGroup len breaks spans first past
    → ((more : List (Range ℕ)) → AreGroups len breaks spans first more → AreGroups len breaks spans 0 (found ++ more))
    → AreGroups len breaks spans past rest → AreGroups len breaks spans 0 ((found ++ record { start = first; end = past } ∷ []) ++ rest)
group_added len breaks spans first past found rest is ahead are =
    subst (AreGroups len breaks spans 0) (sym (append_assoc found (record { start = first; end = past } ∷ []) rest)) (ahead (record { start = first; end = past } ∷ rest) (refl, is, are))

-- the next group of a division of the spans from a place on
pub group_at : (len : ℕ) (breaks : List LineBreak) (spans : List Span) (groups : List (Range ℕ)) (k first past : ℕ) (none : Range ℕ)
    → AreGroups len breaks spans first (drop k groups) → first < length spans → IsGroup len breaks spans first past
    → (k < length groups) × (get_or groups k none ≡ record { start = first; end = past }) × AreGroups len breaks spans past (drop (k + 1) groups)
group_at len breaks spans groups k first past none are more is =
    let there : k < length groups =
    ⊎_elim (λ lt. lt)
    (λ ge. let done : first ≡ length spans = subst (AreGroups len breaks spans first) (drop_all k groups ge) are in absurd (omega (arith, done, more)))
    (cases_lt k (length groups)) in
    let g = get_or groups k none in
    let here = subst (AreGroups len breaks spans first) (drop-cons groups k none there) are in
    let end : g.end ≡ past = same_end len breaks spans first g.end past (subst (λ s. IsGroup len breaks spans s g.end) here.0 here.1) is in
    let next : suc k ≡ k + 1 = omega arith in (
      there,
      same_range g (record { start = first; end = past }) here.0 end,
      subst (λ n. AreGroups len breaks spans past (drop n groups)) next (subst (λ e. AreGroups len breaks spans e (drop (suc k) groups)) end here.2),
    )

-- where no span is left, no group is
pub groups_at_end : (len : ℕ) (breaks : List LineBreak) (spans : List Span) (groups : List (Range ℕ)) (k first : ℕ)
    → AreGroups len breaks spans first (drop k groups) → length spans ≤ first → length groups ≤ k
groups_at_end len breaks spans groups k first are past =
    let none : Range ℕ = record { start = 0; end = 0 } in
    ⊎_elim
    (λ lt.
    let here = subst (AreGroups len breaks spans first) (drop-cons groups k none lt) are in
    absurd (omega (arith, here.0, here.1.some, here.1.within, past)))
    (λ ge. ge) (cases_lt k (length groups))
