-- Each text of a label hangs once: counts of places, and of the rows in which a byte lies.
use Rattle.std.proofs.Common.{◌≡◌, ℕ, zero, suc, ◌+◌, ◌-◌, ◌<◌, ◌≤◌, ◌&&◌, not, Bool, true, false, leb, ltb, eqb, cond, List, [], ◌∷◌, ◌++◌, length, map, get_or, max, min, drop, slice_range, zero-le, count_by, inl, inr, refl, sym, ap, subst, ◌∙◌, arith, ⊎_elim, All}
use Rattle.std.specs.List.Sorted.{IsNonDecreasingBy}
use Rattle.std.specs.List.{Contains, filter, filter_map, flat_map, range_with_len, sum_by}
use Rattle.std.specs.Option.{is_some}
use Rattle.std.proofs.lemmas.Bool.{and_parts, cases_lt, cases_Bool, eqb-true, false≢true, leb-true, ltb-true, eq-eqb, le-leb, le-ltb, lt-leb, lt-ltb}
use Rattle.std.proofs.lemmas.Bool.Decides.{nat_tests}
use Rattle.std.proofs.lemmas.List.Sums.{sum_by-append, sum_by-cons}
use Rattle.std.proofs.lemmas.List.{get_or-map, length-map, length-take, length-drop}
use Rattle.std.proofs.lemmas.List.Elements.{All-append, All-cons, All-head, All-map, All-nil, All-tail}
use Rattle.std.specs.declared.ops.Range.{Range}
use Rattle.oxc_span.specs.declared.span.Span.{Span}
use Rattle.oxc_span.specs.Label.{Label}
use Rattle.oxc_windows.specs.declared.breaks.LineBreak.{LineBreak}
use Rattle.oxc_windows.specs.Rows.{row_of, row_start}
use Rattle.oxc_windows.specs.Window.{row_further, window_end}
use Rattle.oxc_windows.proofs.BreaksLemmas.{breaks_valid}
use Rattle.oxc_windows.proofs.ListLemmas.{count_cons}
use Rattle.oxc_windows.proofs.WindowLemmas.{row_start_before, row_start_mono, row_start_within, window_reaches}
use Rattle.oxc_windows.specs.Breaks.{IsBreakList, breaks_of}
use Rattle.oxc_plan.specs.Groups.{AreApart, AreGroups, HoldsItsSpans, group_window, groups_of, largest_end, span_at}
use Rattle.oxc_plan.specs.Laws.{AreAllInOrder, HasPairedCrs, HaveRowsOnce, HaveTextsOnce, IsLastMet, drawn_rows, source_row, texts_below}
use Rattle.oxc_plan.proofs.SourceLemmas.{IsSourceRow, rows_are}
use Rattle.oxc_plan.specs.Order.{label_at, label_order, places, spans_in_order, start_at}
use Rattle.oxc_plan.proofs.GroupsLemmas.{groups_apart, groups_hold, groups_of_are, largest_end_reaches, largest_end_within}
use Rattle.oxc_plan.proofs.OrderLemmas.{label_order_is, spans_ascend, spans_valid}
use Rattle.oxc_plan.specs.Meets.{is_multi_row, is_one_row, label_past, multi_row_labels, one_row_labels}
use Rattle.oxc_plan.specs.Rows.{RowView, numbered, pieces, row_of_piece, rows_in}
use Rattle.oxc_plan.proofs.PlanLemmas.{groups_within, spans_ordered, total, total_pieces}
use Rattle.oxc_plan.specs.declared.hangs.Hang.{Hang}
use Rattle.oxc_plan.specs.Plan.{Ordered, RowPlanView, ends_of, ends_with_text, hang_of, hang_place, hangs_of, in_order, ordered_at, ordered_label, row_plan_of, row_plans_of, snippet_of, snippets_of, spans_of}

-- how often a place stands among places that pass a test
pub count_kept : (p : ℕ → Bool) (at : ℕ) (xs : List ℕ) → p at ≡ true → count_by (λ k. eqb k at) (filter p xs) ≡ count_by (λ k. eqb k at) xs
count_kept p at [] said = refl
count_kept p at (x ∷ xs) said =
    elim (cases_Bool (p x)) [
      | inl kept ↦ rw kept (count_cons (λ k. eqb k at) x (filter p xs) ∙ ap (λ n. cond (eqb x at) 1 0 + n) (count_kept p at xs said) ∙ sym (count_cons (λ k. eqb k at) x xs))
      | inr dropped ↦
          elim (cases_Bool (eqb x at)) [
            | inl same ↦ absurd (false≢true (sym dropped ∙ ap p (eqb-true x at same) ∙ said))
            | inr other ↦ rw dropped (count_kept p at xs said ∙ sym (count_cons (λ k. eqb k at) x xs ∙ rw other (omega arith)))
          ]
    ]

pub count_dropped : (p : ℕ → Bool) (at : ℕ) (xs : List ℕ) → p at ≡ false → count_by (λ k. eqb k at) (filter p xs) ≡ 0
count_dropped p at [] said = refl
count_dropped p at (x ∷ xs) said =
    elim (cases_Bool (p x)) [
      | inl kept ↦
          elim (cases_Bool (eqb x at)) [
            | inl same ↦ absurd (false≢true (sym said ∙ sym (ap p (eqb-true x at same)) ∙ kept))
            | inr other ↦ rw kept (count_cons (λ k. eqb k at) x (filter p xs) ∙ rw other (omega (arith, count_dropped p at xs said)))
          ]
      | inr dropped ↦ rw dropped (count_dropped p at xs said)
    ]

other_number : (a b : ℕ) → a < b → eqb a b ≡ false
other_number a b lt = grind (arith, nat_tests)

other_number_up : (a b : ℕ) → b < a → eqb a b ≡ false
other_number_up a b lt = grind (arith, nat_tests)

-- each place stands once in a range
count_past : (at a n : ℕ) → at < a → count_by (λ k. eqb k at) (range_with_len a n) ≡ 0
count_past at a zero lt = refl
count_past at a (suc n) lt =
    count_cons (λ k. eqb k at) a (range_with_len (a + 1) n) ∙ rw (other_number_up a at lt) (omega (arith, count_past at (a + 1) n (omega arith)))

pub count_once : (at a n : ℕ) → a ≤ at → at < a + n → count_by (λ k. eqb k at) (range_with_len a n) ≡ 1
count_once at a zero le lt = absurd (omega arith)
count_once at a (suc n) le lt =
    ⊎_elim
    (λ later. count_cons (λ k. eqb k at) a (range_with_len (a + 1) n) ∙ rw (other_number a at later) (omega (arith, count_once at (a + 1) n (omega arith) (omega arith))))
    (λ from. count_cons (λ k. eqb k at) a (range_with_len (a + 1) n) ∙ rw (eq-eqb a at (omega arith)) (omega (arith, count_past at (a + 1) n (omega arith))))
    (cases_lt a at)

-- what a list counts has a place in it
counted_there : (at : ℕ) (xs : List ℕ) → 0 < count_by (λ k. eqb k at) xs → Contains xs at
counted_there at [] some = absurd (omega (arith, some))
counted_there at (x ∷ xs) some =
    elim (cases_Bool (eqb x at)) [
      | inl same ↦ (0, omega arith, eqb-true x at same)
      | inr other ↦
          let none : ◌≡◌ {A = ℕ} (cond (eqb x at) 1 0) 0 = ap (λ b. cond b 1 0) other in
          let rest = counted_there at xs (omega (arith, some, none, count_cons (λ k. eqb k at) x xs)) in
          (suc rest.0, omega (arith, rest.1), rest.2)
    ]

-- each given label stands once in label order: its start's labels stand there as given
order_once : (labels : List Label) (at : ℕ) → at < length labels → count_by (λ k. eqb k at) (label_order labels) ≡ 1
order_once labels at lt =
    let p : ℕ → Bool = λ k. eqb (start_at labels k) (start_at labels at) in
    let here : p at ≡ true = eq-eqb (start_at labels at) (start_at labels at) refl in
    sym (count_kept p at (label_order labels) here) ∙ ap (count_by (λ k. eqb k at)) ((label_order_is labels).as_given at)
    ∙ count_kept p at (places labels) here ∙ count_once at 0 (length labels) (omega arith) (omega (arith, lt))

pub all_in_order : (labels : List Label) → AreAllInOrder labels
unfolding in_order
all_in_order labels at lt =
    let once = order_once labels at lt in
    let found = counted_there at (label_order labels) (omega (arith, once)) in
    let f : ℕ → Ordered = λ k. ordered_label (label_at labels k) in
    record {
      once = once;
      stands = (found.0, rw length-map found.1, get_or-map f (label_order labels) found.0 at (f at) found.1 ∙ ap f found.2);
    }

-- how often a place stands among the hanging texts
pub count_hangs : (labels : List Ordered) (places : List ℕ) (at : ℕ) (xs : List ℕ) → is_some (ordered_at labels at).text ≡ true
    → count_by (λ (h : Hang). eqb h.label at) (filter_map (hang_of labels places) xs) ≡ count_by (λ k. eqb k at) xs
count_hangs labels places at [] said = refl
count_hangs labels places at (x ∷ xs) said =
    elim (cases_Bool (is_some (ordered_at labels x).text)) [
      | inl text ↦
          let hang : Hang = record { label = x; at = hang_place labels places x } in
          rw text
          (count_cons (λ (h : Hang). eqb h.label at) hang (filter_map (hang_of labels places) xs) ∙ ap (λ n. cond (eqb x at) 1 0 + n) (count_hangs labels places at xs said)
          ∙ sym (count_cons (λ k. eqb k at) x xs))
      | inr bare ↦
          elim (cases_Bool (eqb x at)) [
            | inl same ↦ absurd (false≢true (sym bare ∙ ap (λ k. is_some (ordered_at labels k).text) (eqb-true x at same) ∙ said))
            | inr other ↦ rw bare (count_hangs labels places at xs said ∙ sym (count_cons (λ k. eqb k at) x xs ∙ rw other (omega arith)))
          ]
    ]

-- the byte lies in the row
abbrev pub holds_byte : ℕ → RowView → Bool
holds_byte byte row = leb row.offset byte && ltb byte (row.offset + row.length)

-- the tests that the plan makes of a row from `o` to before `e` and a label from `x` to before `y`
abbrev pub meets_test : ℕ → ℕ → ℕ → ℕ → Bool
meets_test o e x y = ltb (max o x) (min e (x + max (y - x) 1))

abbrev pub within_test : ℕ → ℕ → ℕ → ℕ → Bool
within_test o e x y = leb o x && leb y e

-- a row holds the last byte of a label exactly where the label lies within it, or ends there having started above
pub byte_last_held : (o e x y : ℕ) → x ≤ y
    → cond (meets_test o e x y && within_test o e x y) 1 0 + cond (meets_test o e x y && not (within_test o e x y) && (not (leb o x) && leb y e)) 1 0
    ≡ cond (leb o (x + max (y - x) 1 - 1) && ltb (x + max (y - x) 1 - 1) e) 1 0
byte_last_held o e x y le =
    let last = x + max (y - x) 1 - 1 in
    ⊎_elim
    (λ (before : last < o).
    let apart : meets_test o e x y ≡ false = le-ltb (max o x) (min e (x + max (y - x) 1)) (omega (arith, before)) in
    rw (apart, lt-leb o last before) refl)
    (λ (from : o ≤ last).
    ⊎_elim
    (λ (inside : last < e).
    let met : meets_test o e x y ≡ true = lt-ltb (max o x) (min e (x + max (y - x) 1)) (omega (arith, from, inside)) in
    let ends : leb y e ≡ true = le-leb y e (omega (arith, inside)) in
    let first = le-leb o last from in
    let second = lt-ltb last e inside in
    ⊎_elim
    (λ (above : x < o). rw (met, ends, lt-leb o x above, first, second) refl)
    (λ (here : o ≤ x). rw (met, ends, le-leb o x here, first, second) refl)
    (cases_lt x o))
    (λ (past : e ≤ last).
    let second = le-ltb last e past in
    let first = le-leb o last from in
    ⊎_elim
    (λ (some : x < y).
    let ends : leb y e ≡ false = lt-leb y e (omega (arith, past, some)) in
    elim (cases_Bool (meets_test o e x y)) [
      | inl met ↦ elim (cases_Bool (leb o x)) [ inl here ↦ rw (met, ends, here, first, second) refl | inr above ↦ rw (met, ends, above, first, second) refl ]
      | inr apart ↦ rw (apart, first, second) refl
    ])
    (λ (empty : y ≤ x).
    let apart : meets_test o e x y ≡ false = le-ltb (max o x) (min e (x + max (y - x) 1)) (omega (arith, past, empty)) in
    rw (apart, first, second) refl)
    (cases_lt x y))
    (cases_lt last e))
    (cases_lt last o)

-- how many of these rows hold a byte
abbrev pub rows_with : ℕ → List RowView → ℕ
rows_with byte rows = sum_by (λ row. cond (holds_byte byte row) 1 0) rows

rows_with_more : (byte : ℕ) (row : RowView) (rows : List RowView) → rows_with byte (row ∷ rows) ≡ cond (holds_byte byte row) 1 0 + rows_with byte rows
rows_with_more byte row rows = sum_by-cons (λ r. cond (holds_byte byte r) 1 0) row rows

holds_not_before : (o e byte : ℕ) → byte < o → (leb o byte && ltb byte e) ≡ false
holds_not_before o e byte lt = grind (arith, nat_tests)

holds_not_past : (o e byte : ℕ) → e ≤ byte → (leb o byte && ltb byte e) ≡ false
holds_not_past o e byte le = grind (arith, nat_tests)

holds_said : (o e byte : ℕ) → o ≤ byte → byte < e → (leb o byte && ltb byte e) ≡ true
holds_said o e byte le lt = grind (arith, nat_tests)

-- of the rows of pieces that follow one another, none holds a byte before them or past them, and one holds each other
none_before : (byte above offset : ℕ) (ps : List (List ℕ)) → byte < offset → rows_with byte (numbered above offset ps) ≡ 0
unfolding numbered
none_before byte above offset [] lt = refl
none_before byte above offset (p ∷ ps) lt =
    rows_with_more byte (row_of_piece above offset p) (numbered (above + 1) (offset + length p) ps)
    ∙ rw (holds_not_before offset (offset + length p) byte lt) (omega (arith, none_before byte (above + 1) (offset + length p) ps (omega arith)))

none_past : (byte above offset : ℕ) (ps : List (List ℕ)) → offset + total ps ≤ byte → rows_with byte (numbered above offset ps) ≡ 0
unfolding numbered total
none_past byte above offset [] le = refl
none_past byte above offset (p ∷ ps) le =
    rows_with_more byte (row_of_piece above offset p) (numbered (above + 1) (offset + length p) ps)
    ∙ rw (holds_not_past offset (offset + length p) byte (omega arith)) (omega (arith, none_past byte (above + 1) (offset + length p) ps (omega arith)))

one_within : (byte above offset : ℕ) (ps : List (List ℕ)) → offset ≤ byte → byte < offset + total ps → rows_with byte (numbered above offset ps) ≡ 1
unfolding numbered total
one_within byte above offset [] le lt = absurd (omega arith)
one_within byte above offset (p ∷ ps) le lt =
    ⊎_elim
    (λ here. rows_with_more byte (row_of_piece above offset p) (numbered (above + 1) (offset + length p) ps)
    ∙ rw (holds_said offset (offset + length p) byte le here) (omega (arith, none_before byte (above + 1) (offset + length p) ps here)))
    (λ later. rows_with_more byte (row_of_piece above offset p) (numbered (above + 1) (offset + length p) ps)
    ∙ rw (holds_not_past offset (offset + length p) byte later) (omega (arith, one_within byte (above + 1) (offset + length p) ps later (omega arith))))
    (cases_lt byte (offset + length p))

-- the rows of the windows of groups
abbrev pub window_rows : List ℕ → List Span → Range ℕ → List RowView
window_rows source spans group = rows_in source (group_window (length source) (breaks_of source) spans group)

slice_len : (source : List ℕ) (a b : ℕ) → length (slice_range source a b) ≡ min (b - a) (length source - a)
slice_len source a b = length-take (b - a) (drop a source) ∙ ap (min (b - a)) (length-drop a source)

none_below_windows : (byte : ℕ) (source : List ℕ) (spans : List Span) (groups : List (Range ℕ)) → All (λ g. byte < (group_window (length source) (breaks_of source) spans g).begin) groups
    → rows_with byte (flat_map (window_rows source spans) groups) ≡ 0
none_below_windows byte source spans [] all = refl
none_below_windows byte source spans (g ∷ gs) all =
    let w = group_window (length source) (breaks_of source) spans g in
    let below : byte < w.begin = all 0 g (omega arith) in
    sum_by-append (λ row. cond (holds_byte byte row) 1 0) (window_rows source spans g) (flat_map (window_rows source spans) gs)
    ∙ omega (arith, none_before byte w.line w.begin (pieces (slice_range source w.begin w.end)) below, none_below_windows byte source spans gs (All-tail (λ h. byte < (group_window (length source) (breaks_of source) spans h).begin) g gs all))

none_above_windows : (byte : ℕ) (source : List ℕ) (spans : List Span) (groups : List (Range ℕ)) → length source ≤ byte
    → All (λ g. (group_window (length source) (breaks_of source) spans g).begin ≤ length source) groups
    → rows_with byte (flat_map (window_rows source spans) groups) ≡ 0
none_above_windows byte source spans [] le all = refl
none_above_windows byte source spans (g ∷ gs) le all =
    let w = group_window (length source) (breaks_of source) spans g in
    let begins : w.begin ≤ length source = all 0 g (omega arith) in
    let size = total_pieces (slice_range source w.begin w.end) ∙ slice_len source w.begin w.end in
    sum_by-append (λ row. cond (holds_byte byte row) 1 0) (window_rows source spans g) (flat_map (window_rows source spans) gs)
    ∙ omega (
      arith,
      none_past byte w.line w.begin (pieces (slice_range source w.begin w.end)) (omega (arith, size, le, begins)),
      none_above_windows byte source spans gs le (All-tail (λ h. (group_window (length source) (breaks_of source) spans h).begin ≤ length source) g gs all),
    )

-- a byte of the span at a place, in the window of its group, lies in one row of all windows
pub one_in_windows : (source : List ℕ) (spans : List Span) (at byte from : ℕ) (groups : List (Range ℕ))
    → AreGroups (length source) (breaks_of source) spans from groups → AreApart (length source) (breaks_of source) spans groups
    → All (HoldsItsSpans (length source) (breaks_of source) spans) groups → All (λ (s : Span). s.start ≤ s.end) spans
    → from ≤ at → at < length spans
    → ((g : Range ℕ) → g.start ≤ at → at < g.end → g.end ≤ length spans → (group_window (length source) (breaks_of source) spans g).begin ≤ byte)
    → byte < length source
    → ((g : Range ℕ) → g.start ≤ at → at < g.end → g.end ≤ length spans → byte < (group_window (length source) (breaks_of source) spans g).end)
    → rows_with byte (flat_map (window_rows source spans) groups) ≡ 1
one_in_windows source spans at byte from [] are apart held ordered low lt begins inside ends = absurd (omega (arith, are, low, lt))
one_in_windows source spans at byte from (g ∷ gs) are apart held ordered low lt begins inside ends =
    let len = length source in
    let list = breaks_of source in
    let w = group_window len list spans g in
    let part = pieces (slice_range source w.begin w.end) in
    let size = total_pieces (slice_range source w.begin w.end) ∙ slice_len source w.begin w.end in
    let later : byte < w.end → rows_with byte (flat_map (window_rows source spans) gs) ≡ 0 =
    λ before. none_below_windows byte source spans gs (λ k d h. omega (arith, before, apart 0 (suc k) d (omega arith) (omega (arith, h)))) in
    let both = sum_by-append (λ row. cond (holds_byte byte row) 1 0) (window_rows source spans g) (flat_map (window_rows source spans) gs) in
    ⊎_elim
    (λ (own : at < g.end).
    let before = ends g (omega (arith, are.0, low)) own are.1.within in
    let first = begins g (omega (arith, are.0, low)) own are.1.within in
    both ∙ omega (arith, one_within byte w.line w.begin part first (omega (arith, size, before, inside, first)), later before))
    (λ (next : g.end ≤ at).
    let rest = one_in_windows source spans at byte g.end gs are.2 (λ i j d i_lt j_lt. apart (suc i) (suc j) d (omega (arith, i_lt)) (omega (arith, j_lt)))
    (All-tail (HoldsItsSpans len list spans) g gs held) ordered next lt begins inside ends in
    let past : w.end ≤ byte = ⊎_elim (λ before. absurd (omega (arith, rest, later before))) (λ ge. ge) (cases_lt byte w.end) in
    let first = held 0 g (omega arith) g.start (omega arith) are.1.some in
    both ∙ omega (arith, none_past byte w.line w.begin part (omega (arith, size, past, first.0, first.1, ordered g.start (record { start = 0; end = 0 }) (omega (arith, are.1.some, are.1.within)))), rest))
    (cases_lt at g.end)

both : (a b : Bool) → b ≡ true → ◌≡◌ {A = ℕ} (cond (a && b) 1 0) (cond a 1 0)
both true b said = rw said refl
both false b said = refl

neither : (a b : Bool) → b ≡ false → ◌≡◌ {A = ℕ} (cond (a && b) 1 0) 0
neither true b said = rw said refl
neither false b said = refl

with_true : (a : Bool) → (a && true) ≡ a
with_true true = refl
with_true false = refl

-- how often a place stands among the places below n that pass a test
count_filter : (p : ℕ → Bool) (at n : ℕ) → at < n → count_by (λ k. eqb k at) (filter p (range_with_len 0 n)) ≡ cond (p at) 1 0
count_filter p at n lt =
    elim (cases_Bool (p at)) [
      | inl said ↦ count_kept p at (range_with_len 0 n) said ∙ count_once at 0 n zero-le (omega arith) ∙ sym (rw said refl)
      | inr other ↦ count_dropped p at (range_with_len 0 n) other ∙ sym (rw other refl)
    ]

count_filters : (p q : ℕ → Bool) (at n : ℕ) → at < n → count_by (λ k. eqb k at) (filter q (filter p (range_with_len 0 n))) ≡ cond (p at && q at) 1 0
count_filters p q at n lt =
    elim (cases_Bool (q at)) [
      | inl said ↦ count_kept q at (filter p (range_with_len 0 n)) said ∙ count_filter p at n lt ∙ sym (both (p at) (q at) said)
      | inr other ↦ count_dropped q at (filter p (range_with_len 0 n)) other ∙ sym (neither (p at) (q at) other)
    ]

-- how often the text of a label stands below a row: once where the row holds its last byte
abbrev pub byte_last : Span → ℕ
byte_last span = label_past span - 1

pub texts_of_row : (tab : ℕ) (labels : List Ordered) (row : RowView) (at : ℕ) → at < length labels → is_some (ordered_at labels at).text ≡ true
    → (ordered_at labels at).span.start ≤ (ordered_at labels at).span.end
    → texts_below at (row_plan_of tab labels row) ≡ cond (holds_byte (byte_last (ordered_at labels at).span) row) 1 0
unfolding row_plan_of hangs_of ends_of one_row_labels multi_row_labels
texts_of_row tab labels row at lt text ordered =
    let spans = spans_of labels in
    let x = (ordered_at labels at).span.start in
    let y = (ordered_at labels at).span.end in
    let e = row.offset + row.length in
    let size : length spans ≡ length labels = length-map labels (λ l. l.span) in
    let same : span_at spans at ≡ (ordered_at labels at).span = get_or-map (λ l. l.span) labels at _ _ lt in
    let p : ℕ → Bool = λ k. is_one_row row.offset row.length (span_at spans k) in
    let m : ℕ → Bool = λ k. is_multi_row row.offset row.length (span_at spans k) in
    let q : ℕ → Bool = λ k. ends_with_text row (ordered_at labels k) in
    let hangs = count_hangs labels (filter p (range_with_len 0 (length spans))) at (filter p (range_with_len 0 (length spans))) text ∙ count_filter p at (length spans) (omega (arith, lt, size)) in
    let ends = count_filters m q at (length spans) (omega (arith, lt, size)) in
    let one : p at ≡ (meets_test row.offset e x y && within_test row.offset e x y) = ap (is_one_row row.offset row.length) same in
    let many : m at ≡ (meets_test row.offset e x y && not (within_test row.offset e x y)) = ap (is_multi_row row.offset row.length) same in
    let said : q at ≡ (not (leb row.offset x) && leb y e) = ap (λ b. not (leb row.offset x) && leb y e && b) text ∙ with_true (not (leb row.offset x) && leb y e) in
    ap (λ n. n + count_by (λ k. eqb k at) (filter q (filter m (range_with_len 0 (length spans))))) hangs ∙ ap (λ n. cond (p at) 1 0 + n) ends
    ∙ ap (λ b. cond b 1 0 + cond (m at && q at) 1 0) one
    ∙ ap (λ b. cond (meets_test row.offset e x y && within_test row.offset e x y) 1 0 + cond (b && q at) 1 0) many
    ∙ ap (λ b. cond (meets_test row.offset e x y && within_test row.offset e x y) 1 0 + cond (meets_test row.offset e x y && not (within_test row.offset e x y) && b) 1 0) said
    ∙ byte_last_held row.offset e x y ordered

texts_of_rows : (tab : ℕ) (labels : List Ordered) (at : ℕ) (rows : List RowView) (more : List RowPlanView) → at < length labels → is_some (ordered_at labels at).text ≡ true
    → (ordered_at labels at).span.start ≤ (ordered_at labels at).span.end
    → sum_by (texts_below at) (map (row_plan_of tab labels) rows ++ more) ≡ rows_with (byte_last (ordered_at labels at).span) rows + sum_by (texts_below at) more
texts_of_rows tab labels at [] more lt text ordered = omega arith
texts_of_rows tab labels at (row ∷ rows) more lt text ordered =
    sum_by-cons (texts_below at) (row_plan_of tab labels row) (map (row_plan_of tab labels) rows ++ more)
    ∙ omega (arith, texts_of_row tab labels row at lt text ordered, texts_of_rows tab labels at rows more lt text ordered, rows_with_more (byte_last (ordered_at labels at).span) row rows)

texts_of_groups : (tab : ℕ) (source : List ℕ) (labels : List Ordered) (at : ℕ) (groups : List (Range ℕ)) → at < length labels → is_some (ordered_at labels at).text ≡ true
    → (ordered_at labels at).span.start ≤ (ordered_at labels at).span.end
    → sum_by (texts_below at) (drawn_rows (map (snippet_of tab source labels) groups)) ≡ rows_with (byte_last (ordered_at labels at).span) (flat_map (window_rows source (spans_of labels)) groups)
unfolding snippet_of row_plans_of
texts_of_groups tab source labels at [] lt text ordered = refl
texts_of_groups tab source labels at (g ∷ gs) lt text ordered =
    let byte = byte_last (ordered_at labels at).span in
    texts_of_rows tab labels at (window_rows source (spans_of labels) g) (drawn_rows (map (snippet_of tab source labels) gs)) lt text ordered
    ∙ ap (λ n. rows_with byte (window_rows source (spans_of labels) g) + n) (texts_of_groups tab source labels at gs lt text ordered)
    ∙ sym (sum_by-append (λ row. cond (holds_byte byte row) 1 0) (window_rows source (spans_of labels) g) (flat_map (window_rows source (spans_of labels)) gs))

-- rows of plans, each at or after the end of the one before, from one offset to another
abbrev pub Ascend : ℕ → List RowPlanView → ℕ → Type 0
Ascend from [] to = from ≤ to
Ascend from (p ∷ ps) to = (from ≤ p.row.offset) × Ascend (p.row.offset + p.row.length) ps to

ascend_from : (a b to : ℕ) (ps : List RowPlanView) → a ≤ b → Ascend b ps to → Ascend a ps to
ascend_from a b to [] le up = omega (arith, up)
ascend_from a b to (p ∷ ps) le up = (omega (arith, up.0), up.1)

ascend_append : (a b c : ℕ) (xs ys : List RowPlanView) → Ascend a xs b → Ascend b ys c → Ascend a (xs ++ ys) c
ascend_append a b c [] ys left right = ascend_from a b c ys left right
ascend_append a b c (x ∷ xs) ys left right = (left.0, ascend_append (x.row.offset + x.row.length) b c xs ys left.1 right)

ascend_all : (a to : ℕ) (ps : List RowPlanView) → Ascend a ps to → All (λ p. a ≤ p.row.offset) ps
ascend_all a to [] up = All-nil (λ p. a ≤ p.row.offset)
ascend_all a to (p ∷ ps) up =
    All-cons (λ q. a ≤ q.row.offset) p ps up.0 (λ k d lt. omega (arith, up.0, ascend_all (p.row.offset + p.row.length) to ps up.1 k d lt))

-- of two rows, the one that begins earlier ends before the other begins
ascend_apart : (a to : ℕ) (ps : List RowPlanView) → Ascend a ps to → (i j : ℕ) (d e : RowPlanView) → i < length ps → j < length ps
    → (get_or ps i d).row.offset < (get_or ps j e).row.offset → (get_or ps i d).row.offset + (get_or ps i d).row.length ≤ (get_or ps j e).row.offset
ascend_apart a to [] up i j d e i_lt j_lt lt = absurd (omega arith)
ascend_apart a to (p ∷ ps) up zero zero d e i_lt j_lt lt = absurd (omega (arith, lt))
ascend_apart a to (p ∷ ps) up zero (suc j) d e i_lt j_lt lt = ascend_all (p.row.offset + p.row.length) to ps up.1 j e (omega arith)
ascend_apart a to (p ∷ ps) up (suc i) zero d e i_lt j_lt lt = absurd (omega (arith, lt, ascend_all (p.row.offset + p.row.length) to ps up.1 i d (omega arith)))
ascend_apart a to (p ∷ ps) up (suc i) (suc j) d e i_lt j_lt lt = ascend_apart (p.row.offset + p.row.length) to ps up.1 i j d e (omega arith) (omega arith) lt

ascend_rows : (tab : ℕ) (labels : List Ordered) (above offset : ℕ) (ps : List (List ℕ)) → Ascend offset (map (row_plan_of tab labels) (numbered above offset ps)) (offset + total ps)
unfolding numbered total row_plan_of
ascend_rows tab labels above offset [] = omega arith
ascend_rows tab labels above offset (p ∷ ps) =
    let place : offset + length p + total ps ≡ offset + (length p + total ps) = omega arith in
    (omega arith, subst (Ascend (offset + length p) (map (row_plan_of tab labels) (numbered (above + 1) (offset + length p) ps))) place (ascend_rows tab labels (above + 1) (offset + length p) ps))

ascend_groups : (tab : ℕ) (source : List ℕ) (labels : List Ordered) (from : ℕ) (groups : List (Range ℕ)) → from ≤ length source
    → AreApart (length source) (breaks_of source) (spans_of labels) groups
    → All (λ g. (from ≤ (group_window (length source) (breaks_of source) (spans_of labels) g).begin) × ((group_window (length source) (breaks_of source) (spans_of labels) g).begin ≤ (group_window (length source) (breaks_of source) (spans_of labels) g).end) × ((group_window (length source) (breaks_of source) (spans_of labels) g).end ≤ length source)) groups
    → Ascend from (drawn_rows (map (snippet_of tab source labels) groups)) (length source)
unfolding snippet_of row_plans_of
ascend_groups tab source labels from [] le apart each = le
ascend_groups tab source labels from (g ∷ gs) le apart each =
    let w = group_window (length source) (breaks_of source) (spans_of labels) g in
    let own = each 0 g (omega arith) in
    let size = total_pieces (slice_range source w.begin w.end) ∙ slice_len source w.begin w.end in
    let reach : w.begin + total (pieces (slice_range source w.begin w.end)) ≡ w.end = omega (arith, size, own.1, own.2) in
    let rows = subst (Ascend w.begin (map (row_plan_of tab labels) (window_rows source (spans_of labels) g))) reach (ascend_rows tab labels w.line w.begin (pieces (slice_range source w.begin w.end))) in
    let rest = ascend_groups tab source labels w.end gs own.2 (λ i j d i_lt j_lt. apart (suc i) (suc j) d (omega (arith, i_lt)) (omega (arith, j_lt)))
    (λ k d lt. let one = each (suc k) d (omega (arith, lt)) in (apart 0 (suc k) d (omega arith) (omega (arith, lt)), one.1, one.2)) in
    ascend_from from w.begin (length source) _ own.0 (ascend_append w.begin w.end (length source) (map (row_plan_of tab labels) (window_rows source (spans_of labels) g)) (drawn_rows (map (snippet_of tab source labels) gs)) rows rest)

-- the count of texts below each row, as above
each_row : (tab : ℕ) (labels : List Ordered) (at : ℕ) (rows : List RowView) → at < length labels → is_some (ordered_at labels at).text ≡ true
    → (ordered_at labels at).span.start ≤ (ordered_at labels at).span.end
    → All (λ plan. texts_below at plan ≡ cond (holds_byte (byte_last (ordered_at labels at).span) plan.row) 1 0) (map (row_plan_of tab labels) rows)
unfolding row_plan_of
each_row tab labels at rows lt text ordered =
    All-map (λ plan. texts_below at plan ≡ cond (holds_byte (byte_last (ordered_at labels at).span) plan.row) 1 0) (row_plan_of tab labels) rows (λ k d _. texts_of_row tab labels (get_or rows k d) at lt text ordered)

each_plan : (tab : ℕ) (source : List ℕ) (labels : List Ordered) (at : ℕ) (groups : List (Range ℕ)) → at < length labels → is_some (ordered_at labels at).text ≡ true
    → (ordered_at labels at).span.start ≤ (ordered_at labels at).span.end
    → All (λ plan. texts_below at plan ≡ cond (holds_byte (byte_last (ordered_at labels at).span) plan.row) 1 0) (drawn_rows (map (snippet_of tab source labels) groups))
unfolding snippet_of row_plans_of
each_plan tab source labels at [] lt text ordered = All-nil (λ plan. texts_below at plan ≡ cond (holds_byte (byte_last (ordered_at labels at).span) plan.row) 1 0)
each_plan tab source labels at (g ∷ gs) lt text ordered =
    All-append (λ plan. texts_below at plan ≡ cond (holds_byte (byte_last (ordered_at labels at).span) plan.row) 1 0)
    (map (row_plan_of tab labels) (window_rows source (spans_of labels) g)) (drawn_rows (map (snippet_of tab source labels) gs))
    (each_row tab labels at (window_rows source (spans_of labels) g) lt text ordered) (each_plan tab source labels at gs lt text ordered)

holds_from : (o e byte : ℕ) → 0 < cond (leb o byte && ltb byte e) 1 0 → (o ≤ byte) × (byte < e)
holds_from o e byte some =
    elim (cases_Bool (leb o byte && ltb byte e)) [
      | inl said ↦ let parts = and_parts (leb o byte) (ltb byte e) said in (leb-true o byte parts.0, ltb-true byte e parts.1)
      | inr other ↦ absurd (omega (arith, ap {B = ℕ} (λ b. cond b 1 0) other))
    ]

pub last_met : (len : ℕ) (rows : List RowPlanView) (span : Span) (at : ℕ) → Ascend 0 rows len
    → All (λ plan. texts_below at plan ≡ cond (holds_byte (byte_last span) plan.row) 1 0) rows
    → All (λ plan. 0 < texts_below at plan → IsLastMet rows span plan) rows
last_met len rows span at up each k d lt some =
    let plan = get_or rows k d in
    let here = holds_from plan.row.offset (plan.row.offset + plan.row.length) (byte_last span) (omega (arith, some, each k d lt)) in (
      (byte_last span, here.0, here.1, omega arith, omega arith),
      λ j e j_lt later met. omega (arith, ascend_apart 0 len rows up k j d e lt j_lt later, met.1, met.4, here.1),
    )

-- the byte lies in the window of a group whose largest end is at or after the label's
reaches_byte : (len : ℕ) (list : List LineBreak) (largest start end : ℕ) → IsBreakList len list → largest ≤ len → start ≤ end → end ≤ largest → start < len
    → start + max (end - start) 1 - 1 < window_end len list 1 largest
reaches_byte len list largest start end ok le ordered reach inside =
    ⊎_elim (λ lt. omega (arith, lt, reach, ordered)) (λ (all : window_end len list 1 largest ≡ len). omega (arith, all, le, reach, ordered, inside)) (window_reaches len list largest ok le)

-- each window is a part of the source
windows_within : (source : List ℕ) (spans : List Span) (groups : List (Range ℕ)) → All (λ g. (g.start < g.end) × (g.end ≤ length spans)) groups
    → All (HoldsItsSpans (length source) (breaks_of source) spans) groups → All (λ (s : Span). s.start ≤ s.end) spans
    → All (λ g. (0 ≤ (group_window (length source) (breaks_of source) spans g).begin) × ((group_window (length source) (breaks_of source) spans g).begin ≤ (group_window (length source) (breaks_of source) spans g).end) × ((group_window (length source) (breaks_of source) spans g).end ≤ length source)) groups
unfolding window_end
windows_within source spans groups within held ordered k d lt =
    let g = get_or groups k d in
    let one = within k d lt in
    let first = held k d lt g.start (omega arith) one.0 in
    let last = largest_end spans g.start g.end - 1 in (
      zero-le,
      omega (arith, first.0, first.1, ordered g.start (record { start = 0; end = 0 }) (omega (arith, one.0, one.1))),
      row_start_within (length source) (breaks_of source) (row_of (breaks_of source) last + 1 + row_further (breaks_of source) last + 1) (breaks_valid source),
    )

pub texts_once : (tab : ℕ) (source : List ℕ) (labels : List Label) → HaveTextsOnce tab source labels
unfolding snippets_of groups_of
texts_once tab source labels all at lt some =
    let len = length source in
    let list = breaks_of source in
    let ordered = in_order labels in
    let same : spans_of ordered ≡ spans_in_order labels = spans_ordered labels in
    let groups = groups_of len list (spans_in_order labels) in
    let span = (ordered_at ordered at).span in
    let ok = breaks_valid source in
    let valid_there = spans_valid len labels (spans_in_order labels) refl all in
    let are_there = groups_of_are len list (spans_in_order labels) in
    let are = subst (λ s. AreGroups len list s 0 groups) (sym same) are_there in
    let apart = subst (λ s. AreApart len list s groups) (sym same) (groups_apart len list (spans_in_order labels) 0 groups ok (record { ascend = spans_ascend labels; within = valid_there }) are_there) in
    let held = subst (λ s. All (HoldsItsSpans len list s) groups) (sym same) (groups_hold len list (spans_in_order labels) 0 groups ok (record { ascend = spans_ascend labels; within = valid_there }) are_there) in
    let valid = subst (All (λ (s : Span). (s.start ≤ s.end) × (s.end ≤ len))) (sym same) valid_there in
    let up_there = subst (IsNonDecreasingBy (λ (s : Span). s.start)) (sym same) (spans_ascend labels) in
    let rising : All (λ (s : Span). s.start ≤ s.end) (spans_of ordered) = λ k d h. (valid k d h).0 in
    let size : length (spans_of ordered) ≡ length ordered = length-map ordered (λ l. l.span) in
    let place : span_at (spans_of ordered) at ≡ span = get_or-map (λ l. l.span) ordered at _ _ lt in
    let here = valid at (record { start = 0; end = 0 }) (omega (arith, lt, size)) in
    let start : (span_at (spans_of ordered) at).start ≡ span.start = ap (λ s. s.start) place in
    let end : (span_at (spans_of ordered) at).end ≡ span.end = ap (λ s. s.end) place in
    let up : span.start ≤ span.end = omega (arith, here.0, start, end) in
    let high : span.end ≤ len = omega (arith, here.1, end) in
    let counted = texts_of_groups tab source ordered at groups lt some up in
    let windows = windows_within source (spans_of ordered) groups (groups_within len list (spans_of ordered) 0 groups are) held rising in
    record {
      once = λ inside.
          let short : span.start < len = ⊎_elim (λ h. h) (λ ge. absurd (inside ge)) (cases_lt span.start len) in
          counted
          ∙ one_in_windows source (spans_of ordered) at (byte_last span) 0 groups are apart held rising zero-le (omega (arith, lt, size))
          (λ g low before within.
          let first = (span_at (spans_of ordered) g.start).start in
          omega (arith, row_start_before len list first (row_of list first - 1) ok (omega arith), up_there g.start at (record { start = 0; end = 0 }) low (omega (arith, lt, size)), start))
          (omega (arith, short, high, up))
          (λ g low before within.
          let reach = largest_end_reaches (spans_of ordered) g.start g.end at low before within in
          let most = largest_end_within (spans_of ordered) g.start g.end len valid (omega (arith, low, before)) within in
          reaches_byte len list (largest_end (spans_of ordered) g.start g.end) span.start span.end ok most up (omega (arith, reach, end)) short);
      nowhere = λ past.
          counted ∙ none_above_windows (byte_last span) source (spans_of ordered) groups (omega (arith, past)) (λ k d h. omega (arith, (windows k d h).1, (windows k d h).2));
      last = last_met len (drawn_rows (map (snippet_of tab source ordered) groups)) span at
          (ascend_groups tab source ordered 0 groups zero-le apart windows) (each_plan tab source ordered at groups lt some up);
    }

-- of the rows of the source, only one begins at an offset, and it is the one that holds the byte there
test_at : (offset len o : ℕ) → offset ≡ o → 0 < len → eqb offset o ≡ (leb offset o && ltb o (offset + len))
test_at offset len o e some = grind (arith, nat_tests)

test_below : (offset len o : ℕ) → offset < o → offset + len ≤ o → eqb offset o ≡ (leb offset o && ltb o (offset + len))
test_below offset len o lt le = grind (arith, nat_tests)

test_above : (offset len o : ℕ) → o < offset → eqb offset o ≡ (leb offset o && ltb o (offset + len))
test_above offset len o lt = grind (arith, nat_tests)

offset_says : (source : List ℕ) (r : ℕ) (row : RowView) → IsSourceRow source row → row_start (length source) (breaks_of source) r < row_start (length source) (breaks_of source) (r + 1)
    → eqb row.offset (row_start (length source) (breaks_of source) r) ≡ holds_byte (row_start (length source) (breaks_of source) r) row
offset_says source r row is some =
    let st : ℕ → ℕ = row_start (length source) (breaks_of source) in
    let valid = breaks_valid source in
    let j = is.at in
    let offset : row.offset ≡ st j = ap (λ v. v.offset) is.is in
    let size : row.length ≡ st (j + 1) - st j = ap (λ v. v.length) is.is in
    ⊎_elim
    (λ before. test_below row.offset row.length (st r) (omega (arith, offset, size, is.some, row_start_mono (length source) (breaks_of source) (j + 1) r valid (omega (arith, before)))) (omega (arith, offset, size, is.some, row_start_mono (length source) (breaks_of source) (j + 1) r valid (omega (arith, before)))))
    (λ from. ⊎_elim
    (λ after. test_above row.offset row.length (st r) (omega (arith, offset, some, row_start_mono (length source) (breaks_of source) (r + 1) j valid (omega (arith, after)))))
    (λ upto. let same : j ≡ r = omega (arith, from, upto) in test_at row.offset row.length (st r) (offset ∙ ap st same) is.some)
    (cases_lt r j))
    (cases_lt j r)

row_same : (source : List ℕ) (r : ℕ) (row : RowView) → IsSourceRow source row → row_start (length source) (breaks_of source) r < row_start (length source) (breaks_of source) (r + 1)
    → row.offset ≡ row_start (length source) (breaks_of source) r → row ≡ source_row source r
row_same source r row is some e =
    let valid = breaks_valid source in
    let j = is.at in
    let offset = ap (λ v. v.offset) is.is in
    let size = ap (λ v. v.length) is.is in
    let low : r ≤ j = ⊎_elim (λ before. absurd (omega (arith, e, offset, size, is.some, row_start_mono (length source) (breaks_of source) (j + 1) r valid (omega (arith, before))))) (λ ge. ge) (cases_lt j r) in
    let high : j ≤ r = ⊎_elim (λ after. absurd (omega (arith, e, offset, some, row_start_mono (length source) (breaks_of source) (r + 1) j valid (omega (arith, after))))) (λ le. le) (cases_lt r j) in
    let same : j ≡ r = omega (arith, low, high) in
    is.is ∙ ap (source_row source) same

-- counts over plans and over rows
count_offsets : (source : List ℕ) (r : ℕ) (plans : List RowPlanView) → row_start (length source) (breaks_of source) r < row_start (length source) (breaks_of source) (r + 1)
    → All (λ plan. IsSourceRow source plan.row) plans
    → count_by (λ plan. eqb plan.row.offset (row_start (length source) (breaks_of source) r)) plans ≡ sum_by (λ plan. cond (holds_byte (row_start (length source) (breaks_of source) r) plan.row) 1 0) plans
count_offsets source r [] some all = refl
count_offsets source r (p ∷ ps) some all =
    let o = row_start (length source) (breaks_of source) r in
    sum_by-cons (λ (plan : RowPlanView). cond (eqb plan.row.offset o) 1 0) p ps
    ∙ ap {B = ℕ} (λ b. cond b 1 0 + count_by (λ (plan : RowPlanView). eqb plan.row.offset o) ps) (offset_says source r p.row (All-head (λ plan. IsSourceRow source plan.row) p ps all) some)
    ∙ ap {B = ℕ} (λ n. cond (holds_byte o p.row) 1 0 + n) (count_offsets source r ps some (All-tail (λ plan. IsSourceRow source plan.row) p ps all))
    ∙ sym (sum_by-cons (λ (plan : RowPlanView). cond (holds_byte o plan.row) 1 0) p ps)

held_by_rows : (tab : ℕ) (labels : List Ordered) (byte : ℕ) (rows : List RowView) (more : List RowPlanView)
    → sum_by (λ plan. cond (holds_byte byte plan.row) 1 0) (map (row_plan_of tab labels) rows ++ more) ≡ rows_with byte rows + sum_by (λ plan. cond (holds_byte byte plan.row) 1 0) more
unfolding row_plan_of
held_by_rows tab labels byte [] more = omega arith
held_by_rows tab labels byte (row ∷ rows) more =
    sum_by-cons (λ (plan : RowPlanView). cond (holds_byte byte plan.row) 1 0) (row_plan_of tab labels row) (map (row_plan_of tab labels) rows ++ more)
    ∙ omega (arith, held_by_rows tab labels byte rows more, rows_with_more byte row rows)

held_by_groups : (tab : ℕ) (source : List ℕ) (labels : List Ordered) (byte : ℕ) (groups : List (Range ℕ))
    → sum_by (λ plan. cond (holds_byte byte plan.row) 1 0) (drawn_rows (map (snippet_of tab source labels) groups)) ≡ rows_with byte (flat_map (window_rows source (spans_of labels)) groups)
unfolding snippet_of row_plans_of
held_by_groups tab source labels byte [] = refl
held_by_groups tab source labels byte (g ∷ gs) =
    held_by_rows tab labels byte (window_rows source (spans_of labels) g) (drawn_rows (map (snippet_of tab source labels) gs))
    ∙ ap (λ n. rows_with byte (window_rows source (spans_of labels) g) + n) (held_by_groups tab source labels byte gs)
    ∙ sym (sum_by-append (λ row. cond (holds_byte byte row) 1 0) (window_rows source (spans_of labels) g) (flat_map (window_rows source (spans_of labels)) gs))

window_is_rows : (source : List ℕ) → HasPairedCrs source → (spans : List Span) (g : Range ℕ) → All (IsSourceRow source) (window_rows source spans g)
unfolding window_end
window_is_rows source paired spans g =
    let w = group_window (length source) (breaks_of source) spans g in
    let last = largest_end spans g.start g.end - 1 in
    let q = row_of (breaks_of source) last + 1 + row_further (breaks_of source) last + 1 in
    rows_are source paired q w.line q (omega arith)

source_plans : (tab : ℕ) (source : List ℕ) → HasPairedCrs source → (labels : List Ordered) (groups : List (Range ℕ)) → All (λ plan. IsSourceRow source plan.row) (drawn_rows (map (snippet_of tab source labels) groups))
unfolding snippet_of row_plans_of row_plan_of
source_plans tab source paired labels [] = All-nil (λ plan. IsSourceRow source plan.row)
source_plans tab source paired labels (g ∷ gs) =
    All-append (λ plan. IsSourceRow source plan.row) (map (row_plan_of tab labels) (window_rows source (spans_of labels) g)) (drawn_rows (map (snippet_of tab source labels) gs))
    (All-map (λ plan. IsSourceRow source plan.row) (row_plan_of tab labels) (window_rows source (spans_of labels) g) (window_is_rows source paired (spans_of labels) g))
    (source_plans tab source paired labels gs)

-- the window of the group of a label begins no later than each row that the label meets
begins_before : (source : List ℕ) (first x b r : ℕ) → first ≤ x → x ≤ b → b < row_start (length source) (breaks_of source) (r + 1)
    → row_start (length source) (breaks_of source) (row_of (breaks_of source) first - 1) ≤ row_start (length source) (breaks_of source) r
begins_before source first x b r before from lt =
    let len = length source in
    let list = breaks_of source in
    let valid = breaks_valid source in
    ⊎_elim
    (λ past. absurd (omega (arith, row_start_mono len list (r + 1) (row_of list first - 1) valid (omega (arith, past)), row_start_before len list first (row_of list first - 1) valid (omega arith), before, from, lt)))
    (λ le. row_start_mono len list (row_of list first - 1) r valid le)
    (cases_lt r (row_of list first - 1))

pub rows_once : (tab : ℕ) (source : List ℕ) (labels : List Label) → HaveRowsOnce tab source labels
unfolding snippets_of groups_of
rows_once tab source labels all paired at r lt met =
    let len = length source in
    let list = breaks_of source in
    let ordered = in_order labels in
    let same : spans_of ordered ≡ spans_in_order labels = spans_ordered labels in
    let groups = groups_of len list (spans_in_order labels) in
    let span = (ordered_at ordered at).span in
    let ok = breaks_valid source in
    let o = row_start len list r in
    let some : o < row_start len list (r + 1) = omega (arith, met.1, met.2) in
    let high : row_start len list (r + 1) ≤ len = row_start_within len list (r + 1) ok in
    let valid_there = spans_valid len labels (spans_in_order labels) refl all in
    let are_there = groups_of_are len list (spans_in_order labels) in
    let are = subst (λ s. AreGroups len list s 0 groups) (sym same) are_there in
    let apart = subst (λ s. AreApart len list s groups) (sym same) (groups_apart len list (spans_in_order labels) 0 groups ok (record { ascend = spans_ascend labels; within = valid_there }) are_there) in
    let held = subst (λ s. All (HoldsItsSpans len list s) groups) (sym same) (groups_hold len list (spans_in_order labels) 0 groups ok (record { ascend = spans_ascend labels; within = valid_there }) are_there) in
    let valid = subst (All (λ (s : Span). (s.start ≤ s.end) × (s.end ≤ len))) (sym same) valid_there in
    let up_there = subst (IsNonDecreasingBy (λ (s : Span). s.start)) (sym same) (spans_ascend labels) in
    let rising : All (λ (s : Span). s.start ≤ s.end) (spans_of ordered) = λ k d h. (valid k d h).0 in
    let size : length (spans_of ordered) ≡ length ordered = length-map ordered (λ l. l.span) in
    let place : span_at (spans_of ordered) at ≡ span = get_or-map (λ l. l.span) ordered at _ _ lt in
    let here = valid at (record { start = 0; end = 0 }) (omega (arith, lt, size)) in
    let start : (span_at (spans_of ordered) at).start ≡ span.start = ap (λ s. s.start) place in
    let end : (span_at (spans_of ordered) at).end ≡ span.end = ap (λ s. s.end) place in
    let up : span.start ≤ span.end = omega (arith, here.0, start, end) in
    let each = source_plans tab source paired ordered groups in
    record {
      once =
          count_offsets source r (drawn_rows (map (snippet_of tab source ordered) groups)) some each
          ∙ held_by_groups tab source ordered o groups
          ∙ one_in_windows source (spans_of ordered) at o 0 groups are apart held rising zero-le (omega (arith, lt, size))
          (λ g low before within. begins_before source (span_at (spans_of ordered) g.start).start span.start met.0 r (omega (arith, start, up_there g.start at (record { start = 0; end = 0 }) low (omega (arith, lt, size)))) met.3 (omega (arith, met.2, some)))
          (omega (arith, some, high))
          (λ g low before within.
          let reach = largest_end_reaches (spans_of ordered) g.start g.end at low before within in
          let most = largest_end_within (spans_of ordered) g.start g.end len valid (omega (arith, low, before)) within in
          omega (arith, reaches_byte len list (largest_end (spans_of ordered) g.start g.end) span.start span.end ok most up (omega (arith, reach, end)) (omega (arith, met.3, met.2, some, high)), met.1, met.4));
      same = λ k d h e. row_same source r (get_or (drawn_rows (map (snippet_of tab source ordered) groups)) k d).row (each k d h) some e;
    }
