-- Filters over parts of a list; the labels of a group are alone in its rows, and the open ones are all that meet a row.
use Rattle.std.proofs.Common.{◌≡◌, ℕ, zero, suc, ◌+◌, ◌-◌, ◌<◌, ◌≤◌, ◌&&◌, not, Bool, true, false, ltb, List, [], ◌∷◌, ◌++◌, length, map, get_or, max, min, refl, sym, ap, subst, ◌∙◌, arith, append-nil, ⊎_elim, inl, inr, slice_range, drop, All, ◌⊎◌}
use Rattle.std.specs.List.{filter, range_with_len}
use Rattle.std.specs.List.Sorted.{IsNonDecreasingBy}
use Rattle.std.proofs.lemmas.Bool.{cases_lt, cases_Bool, false≢true, ltb-true, lt-ltb}
use Rattle.std.proofs.lemmas.Bool.Decides.{nat_tests}
use Rattle.std.proofs.lemmas.List.{length-map, length-take, length-drop, get_or-map}
use Rattle.std.proofs.lemmas.List.Elements.{All-nil, All-cons, All-head, All-tail, filter-append}
use Rattle.std.proofs.lemmas.List.FromFn.{length-range_with_len, get_or-range_with_len}
use Rattle.std.specs.declared.ops.Range.{Range}
use Rattle.oxc_span.specs.declared.span.Span.{Span}
use Rattle.oxc_windows.specs.declared.breaks.LineBreak.{LineBreak}
use Rattle.oxc_windows.specs.Breaks.{IsBreakList, breaks_of}
use Rattle.oxc_windows.specs.Rows.{row_of}
use Rattle.oxc_windows.specs.Window.{row_further, window_end}
use Rattle.oxc_windows.proofs.BreaksLemmas.{breaks_valid}
use Rattle.oxc_windows.proofs.WindowLemmas.{row_start_within, window_reaches}
use Rattle.oxc_plan.specs.Groups.{AreGroups, IsGroup, group_window, largest_end, span_at}
use Rattle.oxc_plan.specs.Meets.{Meets, is_one_row, is_multi_row, is_within, label_past, meeting_labels, meets, multi_row_labels, one_row_labels}
use Rattle.oxc_plan.specs.Order.{AreOrderedSpans}
use Rattle.oxc_plan.specs.declared.rows.Row.{Row}
use Rattle.oxc_plan.specs.Rows.{RowView, numbered, pieces, row_of_piece, row_view, rows_in}
use Rattle.oxc_plan.specs.Sweep.{IsGroupAlone, MeetNoOthers, is_open}
use Rattle.oxc_plan.proofs.GroupsLemmas.{begin_before, group_before, groups_apart, groups_hold, largest_end_reaches, largest_end_within}
use Rattle.oxc_plan.proofs.PlanLemmas.{groups_within, rows_below}
pub use Rattle.base_lemmas.proofs.Ranges.{range_with_len-append as range_split}

-- a filter by two tests is by one after the other
pub filter_both : {X : Type 0} (p q : X → Bool) (xs : List X) → filter (λ x. p x && q x) xs ≡ filter q (filter p xs)
filter_both p q [] = refl
filter_both p q (x ∷ xs) =
    elim (cases_Bool (p x)) [
      | inl said ↦ elim (cases_Bool (q x)) [
        | inl both ↦ rw (said, both) (ap (λ l. x ∷ l) (filter_both p q xs))
        | inr one ↦ rw (said, one) (filter_both p q xs)
      ]
      | inr not_said ↦ rw not_said (filter_both p q xs)
    ]

-- a filter over a list is one over a sublist in order that holds all that pass
pub filter_within : {X : Type 0} (p q : X → Bool) → ((x : X) → p x ≡ true → q x ≡ true) → (xs : List X) → filter p (filter q xs) ≡ filter p xs
filter_within p q so [] = refl
filter_within p q so (x ∷ xs) =
    elim (cases_Bool (q x)) [
      | inl kept ↦ elim (cases_Bool (p x)) [
        | inl said ↦ rw (kept, said) (ap (λ l. x ∷ l) (filter_within p q so xs))
        | inr not_said ↦ rw (kept, not_said) (filter_within p q so xs)
      ]
      | inr dropped ↦ elim (cases_Bool (p x)) [
        | inl said ↦ absurd (false≢true (sym dropped ∙ so x said))
        | inr not_said ↦ rw (dropped, not_said) (filter_within p q so xs)
      ]
    ]

pub filter_none : {X : Type 0} (p : X → Bool) (xs : List X) → All (λ x. p x ≡ false) xs → filter p xs ≡ []
filter_none p [] none = refl
filter_none p (x ∷ xs) none = rw (All-head (λ y. p y ≡ false) x xs none) (filter_none p xs (All-tail (λ y. p y ≡ false) x xs none))

pub range_parts : (a b c : ℕ) → a ≤ b → b ≤ c → range_with_len a (c - a) ≡ range_with_len a (b - a) ++ range_with_len b (c - b)
range_parts a b c first then =
    let whole : c - a ≡ (b - a) + (c - b) = omega arith in
    let middle : a + (b - a) ≡ b = omega arith in
    ap (range_with_len a) whole ∙ range_split a (b - a) (c - b) ∙ ap (λ k. range_with_len a (b - a) ++ range_with_len k (c - b)) middle

range_all : (P : ℕ → Type 0) (a n : ℕ) → ((at : ℕ) → a ≤ at → at < a + n → P at) → All P (range_with_len a n)
range_all P a n each k d lt =
    let short : k < n = rw length-range_with_len at lt in
    subst P (sym (get_or-range_with_len a n k d short)) (each (a + k) (omega arith) (omega arith))

-- what a test of a row and a label says
pub met_test : (o e s past : ℕ) → ltb (max o s) (min e past) ≡ true → ltb o past ≡ true
met_test o e s past h = lt-ltb o past (omega (arith, ltb-true (max o s) (min e past) h))

apart_test : (o e s past : ℕ) → e ≤ s → ltb (max o s) (min e past) ≡ false
apart_test o e s past le = grind (arith, nat_tests)

pub meets_means : (offset len : ℕ) (span : Span) → meets offset len span ≡ true → Meets offset len span
meets_means offset len span h =
    let lt = ltb-true (max offset span.start) (min (offset + len) (label_past span)) h in
    (max offset span.start, omega arith, omega (arith, lt), omega arith, omega (arith, lt))

met_not : (offset len : ℕ) (span : Span) → ¬ Meets offset len span → meets offset len span ≡ false
met_not offset len span none =
    elim (cases_Bool (meets offset len span)) [ inl said ↦ absurd (none (meets_means offset len span said)) | inr other ↦ other ]

-- the labels of a row are among the open ones
pub one_row_from : (row : RowView) (spans : List Span) (active : List ℕ) → filter (λ at. meets row.offset row.length (span_at spans at)) active ≡ meeting_labels row.offset row.length spans
    → filter (λ at. is_one_row row.offset row.length (span_at spans at)) active ≡ one_row_labels row.offset row.length spans
unfolding one_row_labels meeting_labels
one_row_from row spans active same =
    let p : ℕ → Bool = λ at. meets row.offset row.length (span_at spans at) in
    let q : ℕ → Bool = λ at. is_within row.offset row.length (span_at spans at) in
    filter_both p q active ∙ ap (filter q) same ∙ sym (filter_both p q (range_with_len 0 (length spans)))

pub multi_row_from : (row : RowView) (spans : List Span) (active : List ℕ) → filter (λ at. meets row.offset row.length (span_at spans at)) active ≡ meeting_labels row.offset row.length spans
    → filter (λ at. is_multi_row row.offset row.length (span_at spans at)) active ≡ multi_row_labels row.offset row.length spans
unfolding multi_row_labels meeting_labels
multi_row_from row spans active same =
    let p : ℕ → Bool = λ at. meets row.offset row.length (span_at spans at) in
    let q : ℕ → Bool = λ at. not (is_within row.offset row.length (span_at spans at)) in
    filter_both p q active ∙ ap (filter q) same ∙ sym (filter_both p q (range_with_len 0 (length spans)))

-- the labels that are still open after more were opened, and those that end before the row were closed
pub open_more : (spans : List Span) (first next to offset : ℕ) (active opened closed : List ℕ) → first ≤ next → next ≤ to
    → filter (is_open spans offset) active ≡ filter (is_open spans offset) (range_with_len first (next - first))
    → opened ≡ active ++ range_with_len next (to - next) → closed ≡ filter (is_open spans offset) opened
    → closed ≡ filter (is_open spans offset) (range_with_len first (to - first))
open_more spans first next to offset active opened closed low high is_active is_opened is_closed =
    let p = is_open spans offset in
    is_closed ∙ ap (filter p) is_opened ∙ filter-append p active (range_with_len next (to - next))
    ∙ ap (λ l. l ++ filter p (range_with_len next (to - next))) is_active
    ∙ sym (filter-append p (range_with_len first (next - first)) (range_with_len next (to - next)))
    ∙ ap (filter p) (sym (range_parts first next to low high))

-- those that are open at a later place are among those that are open at an earlier one
pub open_later : (spans : List Span) (offset later : ℕ) (all now_open : List ℕ) → offset ≤ later → now_open ≡ filter (is_open spans offset) all
    → filter (is_open spans later) now_open ≡ filter (is_open spans later) all
open_later spans offset later all now_open le is =
    let p = is_open spans later in
    let q = is_open spans offset in
    let so : (at : ℕ) → p at ≡ true → q at ≡ true = λ at h. lt-ltb offset (label_past (span_at spans at)) (omega (arith, le, ltb-true later (label_past (span_at spans at)) h)) in
    ap (filter p) is ∙ filter_within p q so all

-- they are all that meet the row
pub all_open : (spans : List Span) (group : Range ℕ) (row : RowView) (to : ℕ) (active : List ℕ) → IsNonDecreasingBy (λ span. span.start) spans
    → group.start ≤ to → to ≤ group.end → group.end ≤ length spans → (to < group.end → row.offset + row.length ≤ (span_at spans to).start)
    → ((at : ℕ) → at < length spans → (at < group.start) ⊎ (group.end ≤ at) → ¬ Meets row.offset row.length (span_at spans at))
    → active ≡ filter (is_open spans row.offset) (range_with_len group.start (to - group.start))
    → filter (λ at. meets row.offset row.length (span_at spans at)) active ≡ meeting_labels row.offset row.length spans
unfolding meeting_labels
all_open spans group row to active ascend low high within stops alone is =
    let n = length spans in
    let first = group.start in
    let p : ℕ → Bool = λ at. meets row.offset row.length (span_at spans at) in
    let q = is_open spans row.offset in
    let so : (at : ℕ) → p at ≡ true → q at ≡ true = λ at h. met_test row.offset (row.offset + row.length) (span_at spans at).start (label_past (span_at spans at)) h in
    let above : filter p (range_with_len 0 first) ≡ [] =
    filter_none p (range_with_len 0 first) (range_all (λ at. p at ≡ false) 0 first (λ at from upto. met_not row.offset row.length (span_at spans at) (alone at (omega (arith, within, low, high)) (inl (omega arith))))) in
    let later : (at : ℕ) → to ≤ at → at < to + (n - to) → p at ≡ false = λ at from upto.
    ⊎_elim
    (λ inside. apart_test row.offset (row.offset + row.length) (span_at spans at).start (label_past (span_at spans at))
    (omega (arith, stops (omega arith), ascend to at (record { start = 0; end = 0 }) from (omega (arith, within)))))
    (λ outside. met_not row.offset row.length (span_at spans at) (alone at (omega arith) (inr outside)))
    (cases_lt at group.end) in
    let below : filter p (range_with_len to (n - to)) ≡ [] = filter_none p (range_with_len to (n - to)) (range_all (λ at. p at ≡ false) to (n - to) later) in
    let whole : n ≡ first + (n - first) = omega (arith, within, low, high) in
    let begin : 0 + first ≡ first = omega arith in
    let front : range_with_len 0 n ≡ range_with_len 0 first ++ range_with_len first (n - first) =
    ap (range_with_len 0) whole ∙ range_split 0 first (n - first) ∙ ap (λ k. range_with_len 0 first ++ range_with_len k (n - first)) begin in
    let back : range_with_len first (n - first) ≡ range_with_len first (to - first) ++ range_with_len to (n - to) = range_parts first to n low (omega (arith, within, high)) in
    ap (filter p) is
    ∙ filter_within p q so (range_with_len first (to - first))
    ∙ sym (append-nil (filter p (range_with_len first (to - first))))
    ∙ ap (λ l. filter p (range_with_len first (to - first)) ++ l) (sym below)
    ∙ sym (filter-append p (range_with_len first (to - first)) (range_with_len to (n - to)))
    ∙ ap (filter p) (sym back)
    ∙ ap (λ l. l ++ filter p (range_with_len first (n - first))) (sym above)
    ∙ sym (filter-append p (range_with_len 0 first) (range_with_len first (n - first)))
    ∙ ap (filter p) (sym front)

-- no label outside a group meets the next row of it, nor those behind
pub alone_head : (spans : List Span) (group : Range ℕ) (rows more : List RowView) (row : RowView) → MeetNoOthers spans group rows → rows ≡ row ∷ more
    → (at : ℕ) → at < length spans → (at < group.start) ⊎ (group.end ≤ at) → ¬ Meets row.offset row.length (span_at spans at)
alone_head spans group rows more row alone is at lt outside =
    All-head (λ (r : RowView). ¬ Meets r.offset r.length (span_at spans at)) row more
    (subst (All (λ (r : RowView). ¬ Meets r.offset r.length (span_at spans at))) is (alone at lt outside))

pub alone_tail : (spans : List Span) (group : Range ℕ) (rows more : List RowView) (row : RowView) → MeetNoOthers spans group rows → rows ≡ row ∷ more → MeetNoOthers spans group more
alone_tail spans group rows more row alone is = λ at lt outside.
    All-tail (λ (r : RowView). ¬ Meets r.offset r.length (span_at spans at)) row more
    (subst (All (λ (r : RowView). ¬ Meets r.offset r.length (span_at spans at))) is (alone at lt outside))

-- one label more was opened
pub range_more : (a b : ℕ) → a ≤ b → range_with_len a (b + 1 - a) ≡ range_with_len a (b - a) ++ b ∷ []
range_more a b le =
    let one : b + 1 - b ≡ 1 = omega arith in
    range_parts a b (b + 1) le (omega arith) ∙ ap (λ n. range_with_len a (b - a) ++ range_with_len b n) one

-- the rows of bytes ascend from where the bytes begin
rows_from_begin : (above offset : ℕ) (ps : List (List ℕ)) → All (λ row. offset ≤ row.offset) (numbered above offset ps)
unfolding numbered
rows_from_begin above offset [] = All-nil (λ row. offset ≤ row.offset)
rows_from_begin above offset (p ∷ ps) =
    All-cons (λ row. offset ≤ row.offset) (row_of_piece above offset p) (numbered (above + 1) (offset + length p) ps) (omega arith)
    (λ k d lt. omega (arith, rows_from_begin (above + 1) (offset + length p) ps k d lt))

-- a label of an earlier group ends before the window, or is an empty one at the source's end
earlier_ends : (len : ℕ) (breaks : List LineBreak) (spans : List Span) (from : ℕ) (groups : List (Range ℕ)) (at : ℕ) → IsBreakList len breaks → AreOrderedSpans len spans
    → AreGroups len breaks spans from groups → from ≤ at → at < length spans
    → All (λ g. at < g.start → (label_past (span_at spans at) ≤ (group_window len breaks spans g).begin) ⊎ (len ≤ (group_window len breaks spans g).begin)) groups
earlier_ends len breaks spans from [] at ok order are low lt = All-nil (λ g. at < g.start → (label_past (span_at spans at) ≤ (group_window len breaks spans g).begin) ⊎ (len ≤ (group_window len breaks spans g).begin))
earlier_ends len breaks spans from (group ∷ groups) at ok order are low lt =
    let P : Range ℕ → Type 0 = λ g. at < g.start → (label_past (span_at spans at) ≤ (group_window len breaks spans g).begin) ⊎ (len ≤ (group_window len breaks spans g).begin) in
    All-cons P group groups (λ before. absurd (omega (arith, before, low, are.0)))
    (⊎_elim
    (λ (here : at < group.end).
    let d : Span = record { start = 0; end = 0 } in
    let largest = largest_end spans group.start group.end in
    let end = window_end len breaks 1 largest in
    let held = largest_end_reaches spans group.start group.end at (omega (arith, low, are.0)) here are.1.within in
    let valid = order.within at d lt in
    let most = largest_end_within spans group.start group.end len order.within (omega (arith, are.1.some)) are.1.within in
    let apart = groups_apart len breaks spans from (group ∷ groups) ok order are in
    λ k e h before.
    let later : end ≤ (group_window len breaks spans (get_or groups k e)).begin = apart 0 (suc k) e (omega arith) (omega (arith, h)) in
    ⊎_elim
    (λ more. inl (omega (arith, later, more, held, valid.0)))
    (λ done. inr (omega (arith, later, done)))
    (window_reaches len breaks largest ok most))
    (λ later. earlier_ends len breaks spans group.end groups at ok order are.2 later lt)
    (cases_lt at group.end))

-- each group is alone in its rows
alone_in : (source : List ℕ) (spans : List Span) (group : Range ℕ) → AreOrderedSpans (length source) spans → IsGroup (length source) (breaks_of source) spans group.start group.end
    → ((at : ℕ) → at < length spans → at < group.start → (label_past (span_at spans at) ≤ (group_window (length source) (breaks_of source) spans group).begin) ⊎ (length source ≤ (group_window (length source) (breaks_of source) spans group).begin))
    → MeetNoOthers spans group (rows_in source (group_window (length source) (breaks_of source) spans group))
unfolding window_end
alone_in source spans group order is earlier at lt outside k d inside met =
    let len = length source in
    let list = breaks_of source in
    let ok = breaks_valid source in
    let w = group_window len list spans group in
    let last = largest_end spans group.start group.end - 1 in
    let bytes = slice_range source w.begin w.end in
    let below = (rows_below w.line w.begin bytes k d inside).0 in
    let from = rows_from_begin w.line w.begin (pieces bytes) k d inside in
    let size = length-take (w.end - w.begin) (drop w.begin source) in
    let most = length-drop w.begin source in
    let ends = row_start_within len list (row_of list last + 1 + row_further list last + 1) ok in
    ⊎_elim
    (λ before. ⊎_elim (λ ended. omega (arith, ended, from, met.1, met.4)) (λ past. omega (arith, past, from, below, size, most, met.1, met.2)) (earlier at lt before))
    (λ after.
    let starts = begin_before len list (span_at spans at).start ok in
    let apart = group_before len list spans group.start group.end at ok order is after lt in
    omega (arith, starts, apart, below, from, size, most, met.1, met.2, met.3))
    outside

pub groups_alone : (source : List ℕ) (spans : List Span) (groups : List (Range ℕ)) → AreOrderedSpans (length source) spans → AreGroups (length source) (breaks_of source) spans 0 groups → All (IsGroupAlone source spans) groups
groups_alone source spans groups order are k d lt =
    let len = length source in
    let list = breaks_of source in
    let ok = breaks_valid source in
    let within = groups_within len list spans 0 groups are k d lt in
    record {
      some = within.0;
      within = within.1;
      held = groups_hold len list spans 0 groups ok order are k d lt;
      alone = alone_in source spans (get_or groups k d) order (each_group len list spans 0 groups are k d lt)
          (λ at h before. earlier_ends len list spans 0 groups at ok order are (omega arith) h k d lt before);
    }
  where
    each_group : (len : ℕ) (breaks : List LineBreak) (spans : List Span) (from : ℕ) (groups : List (Range ℕ)) → AreGroups len breaks spans from groups → All (λ g. IsGroup len breaks spans g.start g.end) groups
    each_group len breaks spans from [] are = All-nil (λ g. IsGroup len breaks spans g.start g.end)
    each_group len breaks spans from (g ∷ gs) are = All-cons (λ g. IsGroup len breaks spans g.start g.end) g gs are.1 (each_group len breaks spans g.end gs are.2)
