-- What a drawing asks of a plan follows from its definition.
use Rattle.std.proofs.Common.{◌≡◌, ℕ, zero, suc, ◌+◌, ◌-◌, ◌<◌, ◌≤◌, ◌||◌, Bool, true, false, eqb, ltb, inl, inr, List, [], ◌∷◌, length, map, filter, fold, get_or, take, drop, slice_range, max, Option, Some, None, IfSome, refl, sym, ap, subst, ◌∙◌, arith, ⊎_elim, All}
use Rattle.std.specs.List.{filter_map, find, list_any, position_or_len, range_with_len}
use Rattle.std.specs.Option.{is_some, unwrap_or}
use Rattle.std.specs.Str.{IsCharBoundary, IsUtf8}
use Rattle.std.proofs.lemmas.Bool.{cases_Bool, cases_lt, eqb-true}
use Rattle.std.proofs.lemmas.Bool.Decides.{nat_tests}
use Rattle.std.proofs.lemmas.List.{get_or-map, length-map, length-take, length-drop}
use Rattle.std.proofs.lemmas.List.Elements.{All-nil, All-cons, All-head, All-tail, All-map, All-filter}
use Rattle.std.proofs.lemmas.List.FromFn.{length-range_with_len}
use Rattle.std.proofs.lemmas.List.Sums.{passes_at_first}
use Rattle.std.proofs.lemmas.Str.{IsCharBoundary-after_ascii, IsCharBoundary-before_ascii, IsCharBoundary-end, IsUtf8-drop, IsUtf8-nil, IsUtf8-take}
use Rattle.std.specs.declared.ops.Range.{Range}
use Rattle.oxc_span.specs.declared.span.Span.{Span}
use Rattle.oxc_span.specs.Label.{Label, label_end}
use Rattle.oxc_windows.specs.declared.breaks.LineBreak.{LineBreak}
use Rattle.oxc_windows.specs.Breaks.{breaks_of}
use Rattle.oxc_windows.specs.Rows.{byte_column, is_second_byte, row_of, row_start, settled}
use Rattle.oxc_windows.specs.Window.{window_end}
use Rattle.oxc_windows.proofs.BreaksLemmas.{breaks_valid}
use Rattle.oxc_windows.proofs.RowsLemmas.{row_at_start, row_le, row_of_le}
use Rattle.oxc_windows.proofs.TextLemmas.{window_text}
use Rattle.oxc_windows.proofs.WindowLemmas.{row_start_within}
use Rattle.oxc_plan.specs.Drawable.{IsDrawable, IsDrawableRow, is_marked}
use Rattle.oxc_plan.specs.Groups.{group_window, groups_in, largest_end, span_at}
use Rattle.oxc_plan.specs.Marks.{cells_at, cells_of, mark_end, mark_of, placed_marks, row_cells}
use Rattle.oxc_plan.specs.Meets.{is_multi_row, multi_row_labels}
use Rattle.oxc_plan.specs.Order.{label_order, inserted, ordered, places, spans_in_order, start_at}
use Rattle.oxc_plan.specs.Plan.{Ordered, RowPlanView, across_row, bar_of, bars_of, ends_of, ends_with_text, gutter_of, hang_of, hang_place, hangs_of, head_label, in_order, is_like, ordered_at, row_plan_of, row_plans_of, snippet_of, snippets_of, spans_of, within_row}
use Rattle.oxc_plan.specs.Rows.{RowView, ends_at, first_len, is_cut, numbered, pieces, row_of_piece, row_text, rows_in}
use Rattle.oxc_plan.specs.declared.bars.Bar.{Bar}
use Rattle.oxc_plan.specs.declared.hangs.Hang.{Hang}
use Rattle.oxc_plan.specs.declared.marks.MarkCells.{MarkCells}
use Rattle.oxc_plan.proofs.GroupsLemmas.{groups_of_are}
use Rattle.oxc_plan.proofs.MarksLemmas.{placed_in_order}
use Rattle.oxc_plan.proofs.OrderLemmas.{spans_valid}
use Rattle.oxc_plan.proofs.PlanLemmas.{groups_within, head_holds, one_rows_within, range_below, rows_below, spans_ordered}
use Rattle.oxc_plan.proofs.RowsLemmas.{first_len_bounds, pieces-nil, pieces_first}

-- the gutter reaches each row's bars, and no further than all of them
abbrev more_bars : ℕ → RowPlanView → ℕ
more_bars most row = max most (length row.bars)

from_start : (rows : List RowPlanView) (most : ℕ) → most ≤ fold more_bars most rows
from_start [] most = omega arith
from_start (r ∷ rs) most = omega (arith, from_start rs (max most (length r.bars)))

pub gutter_reaches : (rows : List RowPlanView) (most : ℕ) → All (λ r. length r.bars ≤ fold more_bars most rows) rows
gutter_reaches [] most = All-nil (λ r. length r.bars ≤ most)
gutter_reaches (r ∷ rs) most =
    let all = fold more_bars (max most (length r.bars)) rs in
    All-cons (λ x. length x.bars ≤ all) r rs (omega (arith, from_start rs (max most (length r.bars)))) (gutter_reaches rs (max most (length r.bars)))

pub gutter_within : (bound : ℕ) (rows : List RowPlanView) (most : ℕ) → most ≤ bound → All (λ r. length r.bars ≤ bound) rows → fold more_bars most rows ≤ bound
gutter_within bound [] most le all = le
gutter_within bound (r ∷ rs) most le all =
    gutter_within bound rs (max most (length r.bars)) (omega (arith, All-head (λ x. length x.bars ≤ bound) r rs all)) (All-tail (λ x. length x.bars ≤ bound) r rs all)

filter_few : {A : Type 0} (p : A → Bool) (xs : List A) → length (filter p xs) ≤ length xs
filter_few p [] = omega arith
filter_few p (x ∷ xs) =
    elim (cases_Bool (p x)) [ inl said ↦ rw said (omega (arith, filter_few p xs)) | inr other ↦ rw other (omega (arith, filter_few p xs)) ]

-- the marks of a row are those of its one-row labels
pub labels_marked : (x before tab : ℕ) (row : RowView) (spans : List Span) (places : List ℕ)
    → is_marked (placed_marks before (cells_at tab row spans places)) x ≡ list_any (λ p. eqb p x) places
unfolding placed_marks cells_at
labels_marked x before tab row spans [] = refl
labels_marked x before tab row spans (p ∷ ps) =
    ap (λ b. eqb p x || b) (labels_marked x (mark_end before (cells_of tab row p (span_at spans p))) tab row spans ps)

marks_below : (count before tab : ℕ) (row : RowView) (spans : List Span) (places : List ℕ) → All (λ p. p < count) places
    → All (λ (m : MarkCells). m.label < count) (placed_marks before (cells_at tab row spans places))
unfolding placed_marks cells_at
marks_below count before tab row spans [] all = All-nil (λ (m : MarkCells). m.label < count)
marks_below count before tab row spans (p ∷ ps) all =
    let cells = cells_of tab row p (span_at spans p) in
    All-cons (λ (m : MarkCells). m.label < count) (mark_of before cells) (placed_marks (mark_end before cells) (cells_at tab row spans ps))
    (All-head (λ q. q < count) p ps all) (marks_below count (mark_end before cells) tab row spans ps (All-tail (λ q. q < count) p ps all))

-- what a search finds stands in the list
or_true : (b : Bool) → (b || true) ≡ true
or_true true = refl
or_true false = refl

self_in : (xs : List ℕ) → All (λ x. list_any (λ p. eqb p x) xs ≡ true) xs
self_in xs k d lt = in_at xs k d lt
  where
    same : (x : ℕ) → eqb x x ≡ true
    same x = grind (arith, nat_tests)

    in_at : (xs : List ℕ) (k d : ℕ) → k < length xs → list_any (λ p. eqb p (get_or xs k d)) xs ≡ true
    in_at [] k d lt = absurd (omega (arith, lt))
    in_at (x ∷ xs) zero d lt = rw (same x) refl
    in_at (x ∷ xs) (suc k) d lt = rw (in_at xs k d (omega (arith, lt))) (or_true (eqb x (get_or xs k d)))

pub found_in : (p : ℕ → Bool) (xs : List ℕ) → IfSome (find p xs) (λ q. list_any (λ y. eqb y q) xs ≡ true)
found_in p [] = tt
found_in p (x ∷ xs) =
    elim (cases_Bool (p x)) [
      | inl said ↦ rw said (self_in (x ∷ xs) 0 x (omega arith))
      | inr other ↦ rw other (more x xs (find p xs) (found_in p xs))
    ]
  where
    more : (x : ℕ) (xs : List ℕ) (q : Option ℕ) → IfSome q (λ q. list_any (λ y. eqb y q) xs ≡ true) → IfSome q (λ q. list_any (λ y. eqb y q) (x ∷ xs) ≡ true)
    more x xs None h = tt
    more x xs (Some q) h = rw h (or_true (eqb x q))

place_in : (q : Option ℕ) (xs : List ℕ) (d : ℕ) → IfSome q (λ q. list_any (λ y. eqb y q) xs ≡ true) → list_any (λ y. eqb y d) xs ≡ true → list_any (λ y. eqb y (unwrap_or q d)) xs ≡ true
place_in None xs d h here = here
place_in (Some q) xs d h here = h

hangs_in : (count : ℕ) (labels : List Ordered) (places xs : List ℕ) → All (λ x. (x < count) × (list_any (λ p. eqb p x) places ≡ true)) xs
    → All (λ (h : Hang). (h.label < count) × (list_any (λ p. eqb p h.at) places ≡ true)) (filter_map (hang_of labels places) xs)
hangs_in count labels places [] all = All-nil (λ (h : Hang). (h.label < count) × (list_any (λ p. eqb p h.at) places ≡ true))
hangs_in count labels places (x ∷ xs) all =
    let P : Hang → Type 0 = λ h. (h.label < count) × (list_any (λ p. eqb p h.at) places ≡ true) in
    let here = All-head (λ x. (x < count) × (list_any (λ p. eqb p x) places ≡ true)) x xs all in
    let rest = hangs_in count labels places xs (All-tail (λ x. (x < count) × (list_any (λ p. eqb p x) places ≡ true)) x xs all) in
    elim (cases_Bool (is_some (ordered_at labels x).text)) [
      | inl text ↦
          let at = hang_place labels places x in
          let test : ℕ → Bool = λ other. is_like (ordered_at labels other) (ordered_at labels x) in
          rw text (All-cons P (record { label = x; at = at }) (filter_map (hang_of labels places) xs)
          (here.0, place_in (find test places) places x (found_in test places) here.1) rest)
      | inr bare ↦ rw bare rest
    ]

-- the labels of a row's plan are labels
pub multi_rows_within : (offset len : ℕ) (spans : List Span) → All (λ at. at < length spans) (multi_row_labels offset len spans)
unfolding multi_row_labels
multi_rows_within offset len spans = All-filter (λ at. is_multi_row offset len (span_at spans at)) (λ at. at < length spans) (range_with_len 0 (length spans)) (range_below (length spans))

spans_count : (labels : List Ordered) → length (spans_of labels) ≡ length labels
spans_count labels = length-map labels (λ l. l.span)

within_below : (row : RowView) (labels : List Ordered) → All (λ at. at < length labels) (within_row row labels)
within_below row labels = subst (λ n. All (λ at. at < n) (within_row row labels)) (spans_count labels) (one_rows_within row.offset row.length (spans_of labels))

across_below : (row : RowView) (labels : List Ordered) → All (λ at. at < length labels) (across_row row labels)
across_below row labels = subst (λ n. All (λ at. at < n) (across_row row labels)) (spans_count labels) (multi_rows_within row.offset row.length (spans_of labels))

row_bars : (tab : ℕ) (labels : List Ordered) (row : RowView) → length (row_plan_of tab labels row).bars ≤ length labels
unfolding row_plan_of bars_of multi_row_labels
row_bars tab labels row = omega (
  arith,
  length-map (multi_row_labels row.offset row.length (spans_of labels)) (bar_of row labels),
  filter_few (λ at. is_multi_row row.offset row.length (span_at (spans_of labels) at)) (range_with_len 0 (length (spans_of labels))),
  length-range_with_len 0 (length (spans_of labels)),
  spans_count labels,
)

-- a row that can be drawn, from what holds of the row itself
abbrev IsFit : ℕ → RowView → Type 0
IsFit len row = (IsUtf8 row.text) × (length row.text ≤ row.length) × (row.offset + row.length ≤ len) × (row.number ≤ len)

row_drawable : (tab len gutter : ℕ) (labels : List Ordered) (row : RowView) → IsFit len row → length (row_plan_of tab labels row).bars ≤ gutter → IsDrawableRow len (length labels) gutter (row_plan_of tab labels row)
unfolding row_plan_of bars_of hangs_of ends_of
row_drawable tab len gutter labels row fit few =
    let places = within_row row labels in
    let count = length labels in
    let both : All (λ x. (x < count) × (list_any (λ p. eqb p x) places ≡ true)) places = λ k d lt. (within_below row labels k d lt, self_in places k d lt) in
    let hangs = hangs_in count labels places places both in
    record {
      text = fit.0;
      short = fit.1;
      inside = fit.2;
      number = fit.3;
      bars = few;
      barred = All-map (λ (b : Bar). b.label < count) (bar_of row labels) (across_row row labels) (across_below row labels);
      marks = placed_in_order 0 (row_cells tab row (spans_of labels));
      marked = marks_below count 0 tab row (spans_of labels) places (within_below row labels);
      hangs = λ k d lt. ((hangs k d lt).0, labels_marked (get_or (filter_map (hang_of labels places) places) k d).at 0 tab row (spans_of labels) places ∙ (hangs k d lt).1);
      ends = All-filter (λ at. ends_with_text row (ordered_at labels at)) (λ at. at < count) (across_row row labels) (across_below row labels);
    }

-- the pieces of a text are texts, and none is empty
abbrev IsPiece : List ℕ → Type 0
IsPiece piece = IsUtf8 piece × (0 < length piece)

first_boundary : (bytes : List ℕ) → IsUtf8 bytes → IsCharBoundary bytes (first_len bytes)
first_boundary bytes utf8 =
    let p : ℕ → Bool = λ b. eqb b 10 in
    let n = position_or_len p bytes in
    ⊎_elim
    (λ lt.
    let size : n + 1 ≡ first_len bytes = omega arith in
    let lf = eqb-true (get_or bytes n 0) 10 (passes_at_first p bytes 0 lt) in
    subst (IsCharBoundary bytes) size (IsCharBoundary-after_ascii bytes n utf8 lt (omega (arith, lf))))
    (λ ge.
    let size : length bytes ≡ first_len bytes = omega arith in
    subst (IsCharBoundary bytes) size (IsCharBoundary-end bytes))
    (cases_lt n (length bytes))

pieces_are : (most : ℕ) (bytes : List ℕ) → length bytes ≤ most → IsUtf8 bytes → All IsPiece (pieces bytes)
pieces_are most [] le utf8 = rw pieces-nil (All-nil IsPiece)
pieces_are zero (b ∷ bytes) le utf8 = absurd (omega arith)
pieces_are (suc most) (b ∷ bytes) le utf8 =
    let all = b ∷ bytes in
    let n = first_len all in
    let some : 0 < length all = omega arith in
    let bounds = first_len_bounds all some in
    let cut = first_boundary all utf8 in
    subst (All IsPiece) (sym (pieces_first all some))
    (All-cons IsPiece (take n all) (pieces (drop n all))
    (IsUtf8-take all n utf8 cut, omega (arith, length-take n all, bounds.0, some))
    (pieces_are most (drop n all) (omega (arith, length-drop n all, bounds.0, le)) (IsUtf8-drop all n utf8 cut)))

-- the text of a piece is a text
text_of_piece : (piece : List ℕ) → IsPiece piece → IsUtf8 (row_text piece)
unfolding row_text
text_of_piece piece is =
    let n = length piece in
    elim (cases_Bool (ends_at piece n 10)) [
      | inl lf ↦
          let last = eqb-true (get_or piece (n - 1) 0) 10 lf in
          elim (cases_Bool (ends_at piece (n - 1) 13)) [
            | inl cr ↦
                let before = eqb-true (get_or piece (n - 1 - 1) 0) 13 cr in
                let place : n - 1 - 1 ≡ n - 2 = omega arith in
                rw (lf, cr) (IsUtf8-take piece (n - 2) is.0 (IsCharBoundary-before_ascii piece (n - 2) (omega (arith, is.1)) (omega (arith, before, ap (λ k. get_or piece k 0) place))))
            | inr other ↦ rw (lf, other) (IsUtf8-take piece (n - 1) is.0 (IsCharBoundary-before_ascii piece (n - 1) (omega (arith, is.1)) (omega (arith, last))))
          ]
      | inr other ↦ rw other is.0
    ]

number_small : (above offset : ℕ) (piece : List ℕ) → above ≤ offset → 0 < length piece → (row_of_piece above offset piece).number ≤ offset + length piece
number_small above offset piece le some =
    elim (cases_Bool (is_cut piece)) [ inl cut ↦ rw cut (omega arith) | inr other ↦ rw other (omega arith) ]

rows_of_pieces : (above offset : ℕ) (ps : List (List ℕ)) → above ≤ offset → All IsPiece ps → All (λ row. (IsUtf8 row.text) × (row.number ≤ row.offset + row.length)) (numbered above offset ps)
unfolding numbered
rows_of_pieces above offset [] le all = All-nil (λ row. (IsUtf8 row.text) × (row.number ≤ row.offset + row.length))
rows_of_pieces above offset (p ∷ ps) le all =
    let head = All-head IsPiece p ps all in
    All-cons (λ row. (IsUtf8 row.text) × (row.number ≤ row.offset + row.length)) (row_of_piece above offset p) (numbered (above + 1) (offset + length p) ps)
    (text_of_piece p head, number_small above offset p le head.1)
    (rows_of_pieces (above + 1) (offset + length p) ps (omega (arith, head.1)) (All-tail IsPiece p ps all))

-- the rows of a group's window lie within the source, and their texts are texts
line_le_begin : (source : List ℕ) (start : ℕ) → row_of (breaks_of source) start - 1 ≤ row_start (length source) (breaks_of source) (row_of (breaks_of source) start - 1)
line_le_begin source start =
    let list = breaks_of source in
    let ok = (breaks_valid source).ordered in
    let line = row_of list start - 1 in
    omega (arith, row_at_start (length source) list line ok (omega (arith, row_le list start)), row_of_le list (row_start (length source) list line) ok)

window_utf8 : (source : List ℕ) (spans : List Span) (g : Range ℕ) → IsUtf8 source
    → IsUtf8 (slice_range source (group_window (length source) (breaks_of source) spans g).begin (group_window (length source) (breaks_of source) spans g).end)
window_utf8 source spans g utf8 =
    let w = group_window (length source) (breaks_of source) spans g in
    ⊎_elim
    (λ over. let none : w.end - w.begin ≡ 0 = omega (arith, over) in subst (λ n. IsUtf8 (take n (drop w.begin source))) (sym none) IsUtf8-nil)
    (λ ordered. window_text source 1 1 (span_at spans g.start).start (largest_end spans g.start g.end) w utf8 (omega arith) (omega arith) ordered refl)
    (cases_lt w.end w.begin)

pub rows_fit : (source : List ℕ) (spans : List Span) (g : Range ℕ) → IsUtf8 source → All (IsFit (length source)) (rows_in source (group_window (length source) (breaks_of source) spans g))
unfolding window_end
rows_fit source spans g utf8 k d lt =
    let len = length source in
    let list = breaks_of source in
    let w = group_window len list spans g in
    let bytes = slice_range source w.begin w.end in
    let below = rows_below w.line w.begin bytes k d lt in
    let texts = rows_of_pieces w.line w.begin (pieces bytes) (line_le_begin source (span_at spans g.start).start) (pieces_are (length bytes) bytes (omega arith) (window_utf8 source spans g utf8)) k d lt in
    let begin = row_start_within len list (row_of list (span_at spans g.start).start - 1) (breaks_valid source) in
    let inside : (get_or (rows_in source w) k d).offset + (get_or (rows_in source w) k d).length ≤ len = omega (arith, below.0, length-take (w.end - w.begin) (drop w.begin source), length-drop w.begin source, begin) in
    (texts.0, below.1, inside, omega (arith, texts.1, inside))

-- labels in order are as many as were given
length_inserted : (labels : List Label) (at : ℕ) (xs : List ℕ) → length (inserted labels at xs) ≡ length xs + 1
unfolding inserted
length_inserted labels at [] = refl
length_inserted labels at (x ∷ xs) =
    elim (cases_Bool (ltb (start_at labels x) (start_at labels at))) [
      | inl said ↦ rw said (omega (arith, length_inserted labels at xs))
      | inr other ↦ rw other (omega arith)
    ]

length_ordered : (labels : List Label) (xs : List ℕ) → length (ordered labels xs) ≡ length xs
unfolding ordered
length_ordered labels [] = refl
length_ordered labels (x ∷ xs) = omega (arith, length_inserted labels x (ordered labels xs), length_ordered labels xs)

pub length_in_order : (labels : List Label) → length (in_order labels) ≡ length labels
unfolding in_order label_order
length_in_order labels = length-map (ordered labels (places labels)) _ ∙ length_ordered labels (places labels) ∙ length-range_with_len 0 (length labels)

pub spans_as_many : (labels : List Label) → length (spans_in_order labels) ≡ length labels
spans_as_many labels = ap length (sym (spans_ordered labels)) ∙ spans_count (in_order labels) ∙ length_in_order labels

-- the head lies within the source
settled_le : (list : List LineBreak) (o : ℕ) → settled list o ≤ o
unfolding settled
settled_le list o = elim (cases_Bool (is_second_byte list o)) [ inl second ↦ rw second (omega arith) | inr other ↦ rw other (omega arith) ]

pub column_le : (len : ℕ) (list : List LineBreak) (o : ℕ) → byte_column len list o ≤ o
unfolding byte_column
column_le len list o = omega (arith, settled_le list o)

head_within : (len : ℕ) (labels : List Ordered) (g : Range ℕ) → g.start < g.end → g.end ≤ length labels → All (λ s. (s.start ≤ s.end) × (s.end ≤ len)) (spans_of labels) → (head_label labels g).span.start ≤ len
head_within len labels g some within all =
    head_holds (λ l. l.span.start ≤ len) labels g some within
    (λ at low high.
    let d : Span = record { start = 0; end = 0 } in
    let inside : at < length labels = omega (arith, high, within) in
    let one = all at d (omega (arith, inside, spans_count labels)) in
    let same : span_at (spans_of labels) at ≡ (ordered_at labels at).span = get_or-map (λ l. l.span) labels at _ _ inside in
    omega (arith, one.0, one.1, ap (λ s. s.start) same))

snippet_drawable : (tab : ℕ) (source : List ℕ) (labels : List Ordered) (g : Range ℕ) → IsUtf8 source → g.start < g.end → g.end ≤ length labels
    → All (λ s. (s.start ≤ s.end) × (s.end ≤ length source)) (spans_of labels) → IsDrawable (length source) (length labels) (snippet_of tab source labels g)
unfolding snippet_of row_plans_of gutter_of
snippet_drawable tab source labels g utf8 some within all =
    let len = length source in
    let list = breaks_of source in
    let start = (head_label labels g).span.start in
    let head = head_within len labels g some within all in
    let rows = rows_in source (group_window len list (spans_of labels) g) in
    let plans = map (row_plan_of tab labels) rows in
    let gutter = fold more_bars 0 plans in
    let few : All (λ (p : RowPlanView). length p.bars ≤ gutter) plans = gutter_reaches plans 0 in
    record {
      line = (omega arith, omega (arith, row_of_le list start (breaks_valid source).ordered, head));
      column = (omega arith, omega (arith, column_le len list start, head));
      gutter = gutter_within (length labels) plans 0 (omega arith) (All-map (λ (p : RowPlanView). length p.bars ≤ length labels) (row_plan_of tab labels) rows (λ i e h. row_bars tab labels (get_or rows i e)));
      rows = All-map (IsDrawableRow len (length labels) gutter) (row_plan_of tab labels) rows
          (λ i e h. row_drawable tab len gutter labels (get_or rows i e) (rows_fit source (spans_of labels) g utf8 i e h)
          (subst (λ (p : RowPlanView). length p.bars ≤ gutter) (get_or-map (row_plan_of tab labels) rows i e (row_plan_of tab labels e) h) (few i (row_plan_of tab labels e) (omega (arith, h, length-map rows (row_plan_of tab labels))))));
    }

pub snippets_drawable : (tab : ℕ) (source : List ℕ) (labels : List Label) → IsUtf8 source → All (λ l. label_end l ≤ length source) labels → All (IsDrawable (length source) (length labels)) (snippets_of tab source labels)
unfolding snippets_of
snippets_drawable tab source labels utf8 all =
    let len = length source in
    let o = in_order labels in
    let groups = groups_in source labels in
    let size = length_in_order labels in
    let same : spans_of o ≡ spans_in_order labels = spans_ordered labels in
    let valid = spans_valid len labels (spans_of o) same all in
    let within = groups_within len (breaks_of source) (spans_in_order labels) 0 groups (groups_of_are len (breaks_of source) (spans_in_order labels)) in
    let count : length (spans_in_order labels) ≡ length o = ap length (sym same) ∙ spans_count o in
    subst (λ n. All (IsDrawable len n) (map (snippet_of tab source o) groups)) size
    (All-map (IsDrawable len (length o)) (snippet_of tab source o) groups
    (λ k d lt. snippet_drawable tab source o (get_or groups k d) utf8 (within k d lt).0 (omega (arith, (within k d lt).1, count)) valid))
