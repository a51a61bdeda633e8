-- Lists of views, the rows of a window, and the groups of labels.
use Rattle.std.proofs.Common.{◌≡◌, ℕ, suc, ◌+◌, ◌-◌, ◌<◌, ◌≤◌, ◌&&◌, Bool, leb, inl, inr, true, List, [], ◌∷◌, ◌++◌, length, map, get_or, take, drop, slice_range, max, Option, eqb, refl, sym, ap, subst, ◌∙◌, arith, All}
use Rattle.std.specs.List.{filter, filter_map, find, fold, range_with_len}
use Rattle.std.specs.Option.{option_map, unwrap_or}
use Rattle.std.specs.List.{take-map, drop-map}
use Rattle.std.proofs.lemmas.Bool.{cases_Bool}
use Rattle.std.proofs.lemmas.List.{get_or-map, get_or-take, get_or-drop, get_or_default, length-map, length-take, take_more, map-append}
use Rattle.std.proofs.lemmas.Simd.{map-map}
use Rattle.std.proofs.lemmas.List.Elements.{All-nil, All-cons, All-head, All-tail, All-filter, filter_passes}
use Rattle.std.proofs.lemmas.List.Sums.{fold-append}
use Rattle.std.proofs.lemmas.List.FromFn.{length-range_with_len, get_or-range_with_len}
use Rattle.std.proofs.lemmas.Bool.Decides.{nat_tests}
use Rattle.std.specs.declared.ops.Range.{Range}
use Rattle.oxc_span.specs.declared.span.Span.{Span}
use Rattle.oxc_windows.specs.declared.breaks.LineBreak.{LineBreak}
use Rattle.oxc_span.specs.Label.{Label}
use Rattle.oxc_plan.specs.Groups.{AreGroups, HoldsItsSpans, group_window, groups_of, largest_end, span_at, window_round}
use Rattle.oxc_plan.proofs.GroupsLemmas.{largest_end_reaches}
use Rattle.oxc_plan.proofs.OrderLemmas.{one_in_order}
use Rattle.oxc_plan.specs.Meets.{is_one_row, meets, multi_row_labels, one_row_labels}
use Rattle.oxc_plan.specs.Marks.{cells_at, placed_marks}
use Rattle.oxc_plan.specs.declared.marks.MarkCells.{MarkCells}
use Rattle.oxc_plan.specs.declared.bars.Bar.{Bar}
use Rattle.oxc_plan.specs.declared.hangs.Hang.{Hang}
use Rattle.oxc_plan.specs.declared.labels.OrderedLabel.{OrderedLabel}
use Rattle.oxc_plan.specs.declared.snippets.RowPlan.{RowPlan}
use Rattle.oxc_plan.specs.Order.{label_at, label_order, spans_in_order}
use Rattle.oxc_plan.specs.Plan.{snippets_of, Ordered, RowPlanView, SnippetView, bar_of, bars_of, ends_of, ends_with_text, gutter_of, hang_of, hangs_of, head_label, in_order, ordered_at, ordered_label, ordered_view, row_plan_of, row_plan_view, row_plans_of, snippet_of, spans_of}
use Rattle.oxc_windows.specs.Breaks.{breaks_of}
use Rattle.oxc_windows.specs.Rows.{place_of, row_of}
use Rattle.oxc_windows.specs.Scan.{Contents, IsMeasured, contents_of}
use Rattle.oxc_windows.specs.Window.{row_further, window_at, window_end}
use Rattle.oxc_windows.proofs.BreaksLemmas.{breaks_valid}
use Rattle.oxc_windows.proofs.WindowLemmas.{row_start_within}
use Rattle.oxc_plan.specs.declared.rows.Row.{Row}
use Rattle.oxc_plan.specs.Rows.{RowView, numbered, pieces, with_byte, row_of_piece, row_text, row_view, rows_in, rows_of, ends_at}
pub use Rattle.base_lemmas.proofs.Ranges.{range_within as range_below}

-- a search in a list of views
pub find_map : {A B : Type 0} (v : A → B) (p : B → Bool) (xs : List A) → find p (map v xs) ≡ option_map v (find (λ x. p (v x)) xs)
find_map v p [] = refl
find_map v p (x ∷ xs) =
    elim (cases_Bool (p (v x))) [ inl said ↦ rw said refl | inr other ↦ rw other (find_map v p xs) ]

pub range_map : {A B : Type 0} (v : A → B) (xs : List A) (a b : ℕ) → slice_range (map v xs) a b ≡ map v (slice_range xs a b)
range_map v xs a b = ap (take (b - a)) (drop-map v a xs) ∙ take-map v (b - a) (drop a xs)

-- what holds of each view
pub all_of_views : {A B : Type 0} (v : A → B) (P : B → Type 0) (xs : List A) → All P (map v xs) → All (λ x. P (v x)) xs
all_of_views v P xs all k d lt =
    subst P (get_or-map v xs k d (v d) lt) (all k (v d) (rw length-map lt))

-- one view more
pub views_more : {A B C : Type 0} (v : A → C) (f : B → C) (made : List A) (new : A) (xs : List B) (i : ℕ) (d : B) → i < length xs
    → map v made ≡ map f (take i xs) → v new ≡ f (get_or xs i d) → map v (made ++ new ∷ []) ≡ map f (take (i + 1) xs)
views_more v f made new xs i d lt so_far is =
    map-append v made (new ∷ []) ∙ ap (λ l. l ++ (v new ∷ [])) so_far ∙ ap (λ y. map f (take i xs) ++ (y ∷ [])) is
    ∙ sym (map-append f (take i xs) (get_or xs i d ∷ [])) ∙ sym (ap (map f) (take_more xs i d lt))

-- how many bytes lists have together, and that the pieces of bytes have as many
unfoldable pub total : List (List ℕ) → ℕ
total [] = 0
total (p ∷ ps) = length p + total ps

total_with : (b : ℕ) (ps : List (List ℕ)) → total (with_byte b ps) ≡ suc (total ps)
unfolding total
total_with b [] = refl
total_with b (p ∷ ps) = omega arith

pub total_pieces : (bytes : List ℕ) → total (pieces bytes) ≡ length bytes
unfolding total pieces
total_pieces [] = refl
total_pieces (b ∷ bytes) =
    elim (cases_Bool (eqb b 10)) [
      | inl lf ↦ rw lf (omega (arith, total_pieces bytes))
      | inr other ↦ rw other (omega (arith, total_with b (pieces bytes), total_pieces bytes))
    ]

pub text_short : (piece : List ℕ) → length (row_text piece) ≤ length piece
unfolding row_text
text_short piece =
    elim (cases_Bool (ends_at piece (length piece) 10)) [
      | inl lf ↦ elim (cases_Bool (ends_at piece (length piece - 1) 13)) [
        | inl cr ↦ rw (lf, cr) (rw length-take (omega arith))
        | inr other ↦ rw (lf, other) (rw length-take (omega arith))
      ]
      | inr other ↦ rw other (omega arith)
    ]

-- a row that ends by a bound, with a text no longer than the row
abbrev pub IsBelow : ℕ → RowView → Type 0
IsBelow bound row = (row.offset + row.length ≤ bound) × (length row.text ≤ row.length)

numbered_below : (above offset bound : ℕ) (ps : List (List ℕ)) → offset + total ps ≤ bound → All (IsBelow bound) (numbered above offset ps)
unfolding numbered total
numbered_below above offset bound [] le = All-nil (IsBelow bound)
numbered_below above offset bound (p ∷ ps) le =
    All-cons (IsBelow bound) (row_of_piece above offset p) (numbered (above + 1) (offset + length p) ps)
    (omega arith, text_short p) (numbered_below (above + 1) (offset + length p) bound ps (omega arith))

pub rows_below : (above begin : ℕ) (bytes : List ℕ) → All (IsBelow (begin + length bytes)) (numbered above begin (pieces bytes))
rows_below above begin bytes = numbered_below above begin (begin + length bytes) (pieces bytes) (omega (arith, total_pieces bytes))

-- groups have labels, all within the list
pub groups_within : (len : ℕ) (breaks : List LineBreak) (spans : List Span) (from : ℕ) (groups : List (Range ℕ)) → AreGroups len breaks spans from groups
    → All (λ g. (g.start < g.end) × (g.end ≤ length spans)) groups
groups_within len breaks spans from [] are = All-nil (λ g. (g.start < g.end) × (g.end ≤ length spans))
groups_within len breaks spans from (group ∷ groups) are =
    All-cons (λ g. (g.start < g.end) × (g.end ≤ length spans)) group groups (are.1.some, are.1.within) (groups_within len breaks spans group.end groups are.2)

-- the spans of the labels in label order
pub spans_ordered : (labels : List Label) → spans_of (in_order labels) ≡ spans_in_order labels
unfolding in_order spans_in_order
spans_ordered labels = map-map (λ l. l.span) (λ at. ordered_label (label_at labels at)) (label_order labels)

-- what holds of the labels within a row: they are labels, and start in it
test_starts : (b : Bool) (o s e m : ℕ) → (b && (leb o s && leb e m)) ≡ true → o ≤ s
test_starts b o s e m said = grind (arith, nat_tests)

pub one_rows_within : (offset len : ℕ) (spans : List Span) → All (λ at. at < length spans) (one_row_labels offset len spans)
unfolding one_row_labels
one_rows_within offset len spans = All-filter (λ at. is_one_row offset len (span_at spans at)) (λ at. at < length spans) (range_with_len 0 (length spans)) (range_below (length spans))

pub one_rows_start : (offset len : ℕ) (spans : List Span) → All (λ at. offset ≤ (span_at spans at).start) (one_row_labels offset len spans)
unfolding one_row_labels
one_rows_start offset len spans k d lt =
    let p : ℕ → Bool = λ at. is_one_row offset len (span_at spans at) in
    let at = get_or (filter p (range_with_len 0 (length spans))) k d in
    test_starts (meets offset len (span_at spans at)) offset (span_at spans at).start (span_at spans at).end (offset + len) (filter_passes p (range_with_len 0 (length spans)) k d lt)

-- the plan of a row, from its parts
pub row_plan_made : (tab : ℕ) (labels : List Ordered) (row : RowView) (spans : List Span) (within across : List ℕ) (bars : List Bar) (marks : List MarkCells) (hangs : List Hang) (ends : List ℕ)
    → spans ≡ spans_of labels → within ≡ one_row_labels row.offset row.length spans → across ≡ multi_row_labels row.offset row.length spans
    → bars ≡ map (bar_of row labels) across → marks ≡ placed_marks 0 (cells_at tab row spans within) → hangs ≡ filter_map (hang_of labels within) within
    → ends ≡ filter (λ at. ends_with_text row (ordered_at labels at)) across
    → ◌≡◌ {A = RowPlanView} (record { row = row; bars = bars; marks = marks; hangs = hangs; ends = ends }) (row_plan_of tab labels row)
unfolding row_plan_of bars_of hangs_of ends_of
row_plan_made tab labels row spans within across bars marks hangs ends is_spans is_within is_across is_bars is_marks is_hangs is_ends =
    let one = is_within ∙ ap (one_row_labels row.offset row.length) is_spans in
    let many = is_across ∙ ap (multi_row_labels row.offset row.length) is_spans in
    let b = is_bars ∙ ap (map (bar_of row labels)) many in
    let m = is_marks ∙ ap (λ w. placed_marks 0 (cells_at tab row spans w)) one ∙ ap (λ s. placed_marks 0 (cells_at tab row s (one_row_labels row.offset row.length (spans_of labels)))) is_spans in
    let h = is_hangs ∙ ap (λ w. filter_map (hang_of labels w) w) one in
    let e = is_ends ∙ ap (filter (λ at. ends_with_text row (ordered_at labels at))) many in
    λ i. record { row = row; bars = b i; marks = m i; hangs = h i; ends = e i }

-- the most bars, with one row more
pub gutter_more : (rows : List RowPlan) (i : ℕ) (d : RowPlan) (most new : ℕ) → i < length rows
    → most ≡ fold (λ n (row : RowPlanView). max n (length row.bars)) 0 (map row_plan_view (take i rows)) → new ≡ max most (length (get_or rows i d).bars.items)
    → new ≡ fold (λ n (row : RowPlanView). max n (length row.bars)) 0 (map row_plan_view (take (i + 1) rows))
gutter_more rows i d most new lt so_far is =
    let f : ℕ → RowPlanView → ℕ = λ n row. max n (length row.bars) in
    is ∙ ap (λ n. max n (length (get_or rows i d).bars.items)) so_far
    ∙ sym (fold-append f 0 (map row_plan_view (take i rows)) (row_plan_view (get_or rows i d) ∷ []))
    ∙ ap (fold f 0) (sym (map-append row_plan_view (take i rows) (get_or rows i d ∷ [])) ∙ sym (ap (map row_plan_view) (take_more rows i d lt)))

-- the label of a group's head, by what a search for a primary one found
pub head_found : (labels : List OrderedLabel) (group : Range ℕ) (found : Option OrderedLabel) → found ≡ find (λ l. l.is_primary) (slice_range labels group.start group.end)
    → unwrap_or (option_map ordered_view found) (ordered_at (map ordered_view labels) group.start) ≡ head_label (map ordered_view labels) group
unfolding head_label
head_found labels group found e =
    let p : Ordered → Bool = λ l. l.primary in
    ap (λ o. unwrap_or (option_map ordered_view o) (ordered_at (map ordered_view labels) group.start)) e
    ∙ ap (λ o. unwrap_or o (ordered_at (map ordered_view labels) group.start))
    (sym (find_map ordered_view p (slice_range labels group.start group.end)) ∙ ap (find p) (sym (range_map ordered_view labels group.start group.end)))

-- the largest end of a group of spans is past the start of its first
pub largest_end_from : (spans : List Span) (first past end : ℕ) → end ≡ largest_end spans first past → first < past → past ≤ length spans → All (λ s. s.start ≤ s.end) spans
    → (span_at spans first).start ≤ end
largest_end_from spans first past end e some within all =
    omega (arith, e, largest_end_reaches spans first past first (omega arith) some within, all first (record { start = 0; end = 0 }) (omega (arith, some, within)))

-- what holds of each label of a group holds of the label of its head
find_holds : {A : Type 0} (P : A → Type 0) (p : A → Bool) (xs : List A) (d : A) → All P xs → P d → P (unwrap_or (find p xs) d)
find_holds P p [] d all here = here
find_holds P p (x ∷ xs) d all here =
    elim (cases_Bool (p x)) [ inl said ↦ rw said (All-head P x xs all) | inr other ↦ rw other (find_holds P p xs d (All-tail P x xs all) here) ]

pub head_holds : (P : Ordered → Type 0) (labels : List Ordered) (group : Range ℕ) → group.start < group.end → group.end ≤ length labels
    → ((at : ℕ) → group.start ≤ at → at < group.end → P (ordered_at labels at)) → P (head_label labels group)
unfolding head_label
head_holds P labels group some within each =
    let first = group.start in
    find_holds P (λ l. l.primary) (slice_range labels first group.end) (ordered_at labels first)
    (λ k d lt.
    let cut = rw length-take at lt in
    let short : k < group.end - first = omega (arith, cut) in
    let inside : first + k < length labels = omega (arith, short, within) in
    let same : get_or (slice_range labels first group.end) k d ≡ ordered_at labels (first + k) =
    get_or-take (group.end - first) (drop first labels) k d short ∙ get_or-drop first labels k d ∙ get_or_default labels (first + k) d _ inside in
    subst P (sym same) (each (first + k) (omega arith) (omega (arith, short))))
    (each first (omega arith) some)

-- the head of a group points into what is read for the group
pub head_in : (source : List ℕ) (labels : List Ordered) (spans : List Span) (group : Range ℕ) (span : Span) (contents : Contents) → spans ≡ spans_of labels
    → span.start ≡ (span_at spans group.start).start → span.end ≡ largest_end spans group.start group.end → contents ≡ contents_of source (window_round source span)
    → group.start < group.end → group.end ≤ length spans → HoldsItsSpans (length source) (breaks_of source) spans group → All (λ s. (s.start ≤ s.end) × (s.end ≤ length source)) spans
    → (contents.span.start ≤ (head_label labels group).span.start) × ((head_label labels group).span.start ≤ span.end)
head_in source labels spans group span contents is_spans starts ends known some within held ordered =
    let len = length source in
    let list = breaks_of source in
    let size : length spans ≡ length labels = ap length is_spans ∙ length-map labels (λ l. l.span) in
    let begins : contents.span.start ≡ (group_window len list spans group).begin = ap (λ v. v.span.start) known ∙ ap (λ s. (window_at len list 1 1 s span.end).begin) starts in
    head_holds (λ l. (contents.span.start ≤ l.span.start) × (l.span.start ≤ span.end)) labels group some (omega (arith, within, size))
    (λ at low high.
    let inside : at < length labels = omega (arith, high, within, size) in
    let same : span_at spans at ≡ (ordered_at labels at).span = ap (λ l. span_at l at) is_spans ∙ get_or-map (λ l. l.span) labels at _ _ inside in
    let start : (span_at spans at).start ≡ (ordered_at labels at).span.start = ap (λ s. s.start) same in (
      omega (arith, begins, (held at low high).0, start),
      omega (arith, start, (ordered at (record { start = 0; end = 0 }) (omega (arith, inside, size))).0, largest_end_reaches spans group.start group.end at low high within, ends),
    ))

-- the rows that were read for a span are small
pub rows_small : (rows : List Row) (contents : Contents) (bound : ℕ) → map row_view rows ≡ rows_of contents → IsMeasured contents → contents.span.end < bound
    → All (λ row. (row.offset + row.length < bound) × (length row.text.now < bound)) rows
rows_small rows contents bound is measured lt k d inside =
    let end = contents.span.start + length contents.bytes in
    let below = all_of_views row_view (IsBelow end) rows (subst (All (IsBelow end)) (sym is) (rows_below contents.line contents.span.start contents.bytes)) k d inside in (
      omega (arith, below.0, measured, lt),
      omega (arith, below.0, below.1, measured, lt),
    )

-- the window of rows round a span ends within the source
pub window_within : (source : List ℕ) (span : Span) (contents : Contents) → contents ≡ contents_of source (window_round source span) → contents.span.end ≤ length source
unfolding window_end
window_within source span contents known =
    omega (arith, ap (λ v. v.span.end) known, row_start_within (length source) (breaks_of source) (row_of (breaks_of source) (span.end - 1) + 1 + row_further (breaks_of source) (span.end - 1) + 1) (breaks_valid source))

-- the window that is read for a group
pub window_read : (source : List ℕ) (spans : List Span) (group : Range ℕ) (span : Span) → span.start ≡ (span_at spans group.start).start → span.end ≡ largest_end spans group.start group.end
    → window_round source span ≡ group_window (length source) (breaks_of source) spans group
window_read source spans group span starts ends =
    let len = length source in
    let list = breaks_of source in
    ap (λ s. window_at len list 1 1 s span.end) starts ∙ ap (λ e. window_at len list 1 1 (span_at spans group.start).start e) ends

pub rows_read : (source : List ℕ) (spans : List Span) (group : Range ℕ) (span : Span) (contents : Contents) (views : List RowView) → span.start ≡ (span_at spans group.start).start → span.end ≡ largest_end spans group.start group.end
    → contents ≡ contents_of source (window_round source span) → views ≡ rows_of contents → views ≡ rows_in source (group_window (length source) (breaks_of source) spans group)
rows_read source spans group span contents views starts ends known is = is ∙ ap rows_of known ∙ ap (rows_in source) (window_read source spans group span starts ends)

-- the snippet of a group, from its parts
pub snippet_made : (tab : ℕ) (source : List ℕ) (labels : List Ordered) (group : Range ℕ) (span : Span) (contents : Contents) (head : Ordered) (row column gutter : ℕ) (views : List RowView) (plans : List RowPlanView)
    → span.start ≡ (span_at (spans_of labels) group.start).start → span.end ≡ largest_end (spans_of labels) group.start group.end
    → contents ≡ contents_of source (window_round source span) → head ≡ head_label labels group
    → row ≡ (place_of (length source) (breaks_of source) head.span.start).row → column ≡ (place_of (length source) (breaks_of source) head.span.start).column
    → views ≡ rows_of contents → plans ≡ map (row_plan_of tab labels) views → gutter ≡ gutter_of plans
    → ◌≡◌ {A = SnippetView} (record { head_line = row + 1; head_column = column + 1; gutter = gutter; rows = plans }) (snippet_of tab source labels group)
unfolding snippet_of row_plans_of
snippet_made tab source labels group span contents head row column gutter views plans starts ends known is_head is_row is_column is_views is_plans is_gutter =
    let len = length source in
    let list = breaks_of source in
    let views_are = rows_read source (spans_of labels) group span contents views starts ends known is_views in
    let rows = is_plans ∙ ap (map (row_plan_of tab labels)) views_are in
    let r = is_row ∙ ap (λ (h : Ordered). (place_of len list h.span.start).row) is_head in
    let c = is_column ∙ ap (λ (h : Ordered). (place_of len list h.span.start).column) is_head in
    let g = is_gutter ∙ ap gutter_of rows in
    λ i. record { head_line = r i + 1; head_column = c i + 1; gutter = g i; rows = rows i }

-- there are as many spans as labels
pub spans_count : (labels : List OrderedLabel) (spans : List Span) → spans ≡ spans_of (map ordered_view labels) → length spans ≡ length labels
spans_count labels spans is = ap length is ∙ length-map (map ordered_view labels) (λ l. l.span) ∙ length-map labels ordered_view

-- labels in label order, by their views
pub spans_same : (labels : List Label) (ordered : List OrderedLabel) → map ordered_view ordered ≡ in_order labels → spans_of (map ordered_view ordered) ≡ spans_in_order labels
spans_same labels ordered is = ap spans_of is ∙ spans_ordered labels

-- labels at the places of label order stand in it
pub ordered_are : (labels : List Label) (order : List ℕ) (found : List Ordered) → order ≡ label_order labels → found ≡ map (λ at. ordered_label (label_at labels at)) order → found ≡ in_order labels
unfolding in_order
ordered_are labels order found is made = made ∙ ap (map (λ at. ordered_label (label_at labels at))) is

pub one_ordered : (labels : List Label) (label : Ordered) → length labels ≡ 1 → label ≡ ordered_label (label_at labels 0) → label ∷ [] ≡ in_order labels
one_ordered labels label one is = ordered_are labels (0 ∷ []) (label ∷ []) (one_in_order labels (0 ∷ []) one refl) (ap (λ l. l ∷ []) is)

-- the snippets of groups are those of the labels
pub planned : (tab : ℕ) (source : List ℕ) (labels : List Label) (ordered : List Ordered) (spans : List Span) (plans : List SnippetView) → ordered ≡ in_order labels → spans ≡ spans_in_order labels
    → plans ≡ map (snippet_of tab source ordered) (groups_of (length source) (breaks_of source) spans) → plans ≡ snippets_of tab source labels
unfolding snippets_of
planned tab source labels ordered spans plans is same made =
    made ∙ ap (λ l. map (snippet_of tab source l) (groups_of (length source) (breaks_of source) spans)) is
    ∙ ap (λ s. map (snippet_of tab source (in_order labels)) (groups_of (length source) (breaks_of source) s)) same

-- the spans of labels are those of their views
pub spans_taken : (labels one two : List OrderedLabel) (spans three : List Span) → one ≡ labels → two ≡ labels → three ≡ spans → spans ≡ map (λ l. l.span) one → three ≡ spans_of (map ordered_view two)
spans_taken labels one two spans three e f g is =
    g ∙ is ∙ ap (map (λ (l : OrderedLabel). l.span)) (e ∙ sym f) ∙ sym (map-map (λ (l : Ordered). l.span) ordered_view two)
