-- A row that one label at most can meet.
use Rattle.std.proofs.Common.{◌≡◌, ℕ, ◌+◌, ◌-◌, ◌<◌, ◌≤◌, ◌&&◌, ◌⊎◌, not, Bool, true, false, List, [], ◌∷◌, length, map, filter, refl, sym, ap, ◌∙◌, arith}
use Rattle.std.specs.List.{filter_map, range_with_len}
use Rattle.std.specs.List.Sorted.{IsNonDecreasingBy}
use Rattle.std.proofs.lemmas.Bool.{false≢true}
use Rattle.std.specs.declared.ops.Range.{Range}
use Rattle.oxc_span.specs.declared.span.Span.{Span}
use Rattle.oxc_plan.specs.declared.bars.Bar.{Bar}
use Rattle.oxc_plan.specs.declared.hangs.Hang.{Hang}
use Rattle.oxc_plan.specs.declared.marks.LabelCells.{LabelCells}
use Rattle.oxc_plan.specs.declared.marks.MarkCells.{MarkCells}
use Rattle.oxc_plan.specs.Groups.{span_at}
use Rattle.oxc_plan.specs.Marks.{cells_at, cells_of, mark_of, marks_at, placed_marks}
use Rattle.oxc_plan.specs.Meets.{Meets, is_multi_row, is_one_row, is_within, label_past, meets, multi_row_labels, one_row_labels}
use Rattle.oxc_plan.specs.Plan.{Ordered, RowPlanView, across_row, bar_of, bare_plan, ends_with_text, hang_of, ordered_at, row_plan_of, spans_of, within_row}
use Rattle.oxc_plan.specs.Rows.{RowView}
use Rattle.oxc_plan.specs.Sweep.{HoldAllMet, is_open}
use Rattle.oxc_plan.proofs.PlanLemmas.{row_plan_made}
use Rattle.oxc_plan.proofs.SweepLemmas.{all_open, filter_within, met_test, multi_row_from, one_row_from}

filter_yes : {X : Type 0} (p : X → Bool) (x : X) → p x ≡ true → filter p (x ∷ []) ≡ x ∷ []
filter_yes p x said = rw said refl

filter_no : {X : Type 0} (p : X → Bool) (x : X) → p x ≡ false → filter p (x ∷ []) ≡ []
filter_no p x said = rw said refl

not_both : (a b : Bool) → (a && b) ≡ true → (a && not b) ≡ false
not_both true true said = refl
not_both true false said = absurd (false≢true said)
not_both false b said = refl

-- which labels lie within the row, and which meet it and others: the one, by its tests, or none
pub one_within : (row : RowView) (spans : List Span) (at : ℕ) (span : Span) → HoldAllMet row spans (at ∷ []) → span ≡ span_at spans at → is_one_row row.offset row.length span ≡ true
    → (one_row_labels row.offset row.length spans ≡ at ∷ []) × (multi_row_labels row.offset row.length spans ≡ [])
one_within row spans at span among is said =
    let here : is_one_row row.offset row.length (span_at spans at) ≡ true = ap (is_one_row row.offset row.length) (sym is) ∙ said in
    let other : is_multi_row row.offset row.length (span_at spans at) ≡ false =
    not_both (meets row.offset row.length (span_at spans at)) (is_within row.offset row.length (span_at spans at)) here in (
      sym (one_row_from row spans (at ∷ []) among) ∙ filter_yes (λ a. is_one_row row.offset row.length (span_at spans a)) at here,
      sym (multi_row_from row spans (at ∷ []) among) ∙ filter_no (λ a. is_multi_row row.offset row.length (span_at spans a)) at other,
    )

pub one_across : (row : RowView) (spans : List Span) (at : ℕ) (span : Span) → HoldAllMet row spans (at ∷ []) → span ≡ span_at spans at
    → is_one_row row.offset row.length span ≡ false → is_multi_row row.offset row.length span ≡ true
    → (one_row_labels row.offset row.length spans ≡ []) × (multi_row_labels row.offset row.length spans ≡ at ∷ [])
one_across row spans at span among is one more = (
  sym (one_row_from row spans (at ∷ []) among) ∙ filter_no (λ a. is_one_row row.offset row.length (span_at spans a)) at (ap (is_one_row row.offset row.length) (sym is) ∙ one),
  sym (multi_row_from row spans (at ∷ []) among) ∙ filter_yes (λ a. is_multi_row row.offset row.length (span_at spans a)) at (ap (is_multi_row row.offset row.length) (sym is) ∙ more),
)

pub one_apart : (row : RowView) (spans : List Span) (at : ℕ) (span : Span) → HoldAllMet row spans (at ∷ []) → span ≡ span_at spans at
    → is_one_row row.offset row.length span ≡ false → is_multi_row row.offset row.length span ≡ false
    → (one_row_labels row.offset row.length spans ≡ []) × (multi_row_labels row.offset row.length spans ≡ [])
one_apart row spans at span among is one more = (
  sym (one_row_from row spans (at ∷ []) among) ∙ filter_no (λ a. is_one_row row.offset row.length (span_at spans a)) at (ap (is_one_row row.offset row.length) (sym is) ∙ one),
  sym (multi_row_from row spans (at ∷ []) among) ∙ filter_no (λ a. is_multi_row row.offset row.length (span_at spans a)) at (ap (is_multi_row row.offset row.length) (sym is) ∙ more),
)

-- no place holds all that meet a row: none meets it
pub none_met : (row : RowView) (spans : List Span) (active : List ℕ) → HoldAllMet row spans active → active ≡ []
    → (one_row_labels row.offset row.length spans ≡ []) × (multi_row_labels row.offset row.length spans ≡ [])
none_met row spans active among none = (
  sym (one_row_from row spans active among) ∙ ap (filter (λ a. is_one_row row.offset row.length (span_at spans a))) none,
  sym (multi_row_from row spans active among) ∙ ap (filter (λ a. is_multi_row row.offset row.length (span_at spans a))) none,
)

-- the plan of a row that no label meets, of one in which one label lies, and of one beside which one bar stands
pub bare_made : (tab : ℕ) (labels : List Ordered) (row : RowView) (spans : List Span) → spans ≡ spans_of labels
    → one_row_labels row.offset row.length spans ≡ [] → multi_row_labels row.offset row.length spans ≡ [] → bare_plan row ≡ row_plan_of tab labels row
unfolding placed_marks cells_at
bare_made tab labels row spans is within across = row_plan_made tab labels row spans [] [] [] [] [] [] is (sym within) (sym across) refl refl refl refl

pub within_made : (tab : ℕ) (labels : List Ordered) (row : RowView) (spans : List Span) (at : ℕ) (bars : List Bar) (marks : List MarkCells) (hangs : List Hang) (ends : List ℕ)
    → spans ≡ spans_of labels → one_row_labels row.offset row.length spans ≡ at ∷ [] → multi_row_labels row.offset row.length spans ≡ []
    → bars ≡ [] → marks ≡ marks_at tab row spans (at ∷ []) → hangs ≡ filter_map (hang_of labels (at ∷ [])) (at ∷ []) → ends ≡ []
    → ◌≡◌ {A = RowPlanView} (record { row = row; bars = bars; marks = marks; hangs = hangs; ends = ends }) (row_plan_of tab labels row)
within_made tab labels row spans at bars marks hangs ends is within across is_bars is_marks is_hangs is_ends =
    row_plan_made tab labels row spans (at ∷ []) [] bars marks hangs ends is (sym within) (sym across) is_bars is_marks is_hangs is_ends

pub across_made : (tab : ℕ) (labels : List Ordered) (row : RowView) (at : ℕ) (bars : List Bar) (marks : List MarkCells) (hangs : List Hang) (ends : List ℕ)
    → within_row row labels ≡ [] → across_row row labels ≡ at ∷ []
    → bars ≡ map (bar_of row labels) (at ∷ []) → marks ≡ [] → hangs ≡ [] → ends ≡ filter (λ a. ends_with_text row (ordered_at labels a)) (at ∷ [])
    → ◌≡◌ {A = RowPlanView} (record { row = row; bars = bars; marks = marks; hangs = hangs; ends = ends }) (row_plan_of tab labels row)
unfolding placed_marks cells_at
across_made tab labels row at bars marks hangs ends within across is_bars is_marks is_hangs is_ends =
    row_plan_made tab labels row (spans_of labels) [] (at ∷ []) bars marks hangs ends refl (sym within) (sym across) is_bars is_marks is_hangs is_ends

-- the mark of a lone label
pub one_mark : (tab : ℕ) (row : RowView) (spans : List Span) (at : ℕ) (cells : LabelCells) → cells ≡ cells_of tab row at (span_at spans at)
    → mark_of 0 cells ∷ [] ≡ marks_at tab row spans (at ∷ [])
unfolding placed_marks cells_at
one_mark tab row spans at cells is = ap (λ c. mark_of 0 c ∷ []) is

-- a group of one label holds all that meet a row of the group
pub group_of_one : (spans : List Span) (group : Range ℕ) (row : RowView) → IsNonDecreasingBy (λ span. span.start) spans → group.start + 1 ≡ group.end → group.end ≤ length spans
    → ((at : ℕ) → at < length spans → (at < group.start) ⊎ (group.end ≤ at) → ¬ Meets row.offset row.length (span_at spans at)) → HoldAllMet row spans (group.start ∷ [])
group_of_one spans group row rising one within alone =
    let p : ℕ → Bool = λ at. meets row.offset row.length (span_at spans at) in
    let q = is_open spans row.offset in
    let so : (at : ℕ) → p at ≡ true → q at ≡ true = λ at h. met_test row.offset (row.offset + row.length) (span_at spans at).start (label_past (span_at spans at)) h in
    let size : group.end - group.start ≡ 1 = omega (arith, one) in
    let range : range_with_len group.start (group.end - group.start) ≡ group.start ∷ [] = ap (range_with_len group.start) size in
    let all = all_open spans group row group.end (filter q (range_with_len group.start (group.end - group.start))) rising (omega (arith, one)) (omega arith) within (λ lt. absurd (omega (arith, lt))) alone refl in
    sym (filter_within p q so (group.start ∷ [])) ∙ ap (λ l. filter p (filter q l)) (sym range) ∙ all
