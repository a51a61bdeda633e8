-- The plan of a report's snippets: which rows, which bars and marks on them, which texts hang where. Labels stand in
-- label order, and each is named by its place in it.
use Rattle.std.specs.Prelude.{ℕ, ◌+◌, ◌==◌, ◌&&◌, not, nat_le, Bool, false, List, [], length, map, filter, fold, max, Option, Some, None, slice_index_or, slice_range, if◌then◌else◌}
use Rattle.std.specs.List.{filter_map, find}
use Rattle.std.specs.Option.{is_some, option_copied, unwrap_or}
use Rattle.std.specs.declared.ops.Range.{Range}
use Rattle.oxc_span.specs.declared.span.Span.{Span}
use Rattle.oxc_span.specs.Label.{Label}
use Rattle.oxc_span.specs.LabelEq.{text_eq}
use Rattle.oxc_windows.specs.Breaks.{breaks_of}
use Rattle.oxc_windows.specs.Rows.{Place, place_of}
use Rattle.oxc_plan.specs.Groups.{group_window, groups_in}
use Rattle.oxc_plan.specs.Marks.{row_marks}
use Rattle.oxc_plan.specs.Meets.{multi_row_labels, one_row_labels}
use Rattle.oxc_plan.specs.Order.{label_at, label_order, span_of}
use Rattle.oxc_plan.specs.Rows.{RowView, row_view, rows_in}
use Rattle.oxc_plan.specs.declared.marks.MarkCells.{MarkCells}
use Rattle.oxc_plan.specs.declared.bars.Bar.{Bar}
use Rattle.oxc_plan.specs.declared.bars.BarKind.{BarKind}
use Rattle.oxc_plan.specs.declared.bars.BarKind.TheVariants.{Passes, Starts, Ends}
use Rattle.oxc_plan.specs.declared.hangs.Hang.{Hang}
use Rattle.oxc_plan.specs.declared.labels.OrderedLabel.{OrderedLabel}
use Rattle.oxc_plan.specs.declared.snippets.RowPlan.{RowPlan}
use Rattle.oxc_plan.specs.declared.snippets.SnippetPlan.{SnippetPlan}

-- a label that stands in label order: its span, its text, if it has one, and whether it is a primary one
pub record Ordered : Type 0 where
  pub span : Span
  pub text : Option (List ℕ)
  pub primary : Bool

abbrev pub ordered_view : OrderedLabel → Ordered
ordered_view l = record { span = l.span; text = option_copied l.text; primary = l.is_primary }

abbrev pub ordered_label : Label → Ordered
ordered_label label = record { span = span_of label; text = label.text; primary = label.primary }

-- labels in label order
unfoldable pub in_order : List Label → List Ordered
in_order labels = map (λ at. ordered_label (label_at labels at)) (label_order labels)

-- the label at a place of label order; past the last an empty one at 0
abbrev pub ordered_at : List Ordered → ℕ → Ordered
ordered_at labels at = slice_index_or labels at (record { span = record { start = 0; end = 0 }; text = None; primary = false })

abbrev pub start_in : List Ordered → ℕ → ℕ
start_in labels at = (ordered_at labels at).span.start

abbrev pub spans_of : List Ordered → List Span
spans_of labels = map (λ l. l.span) labels

-- the places of the labels within a row, and of those that meet it and others
abbrev pub within_row : RowView → List Ordered → List ℕ
within_row row labels = one_row_labels row.offset row.length (spans_of labels)

abbrev pub across_row : RowView → List Ordered → List ℕ
across_row row labels = multi_row_labels row.offset row.length (spans_of labels)

-- how the bar of a label over several rows stands beside one of them: the label starts there, else ends there, else passes
abbrev pub bar_kind : RowView → Span → BarKind
bar_kind row span =
    if nat_le row.offset span.start then Starts else if nat_le span.end (row.offset + row.length) then Ends else Passes

abbrev pub bar_of : RowView → List Ordered → ℕ → Bar
bar_of row labels at = record { label = at; kind = bar_kind row (ordered_at labels at).span }

unfoldable pub bars_of : RowView → List Ordered → List Bar
bars_of row labels = map (bar_of row labels) (across_row row labels)

-- labels that are equal in text and span
abbrev pub is_like : Ordered → Ordered → Bool
is_like a b = text_eq a.text b.text && (a.span.start == b.span.start && a.span.end == b.span.end)

-- where the text of a label hangs: at the first of these places whose label is equal in text and span
abbrev pub hang_place : List Ordered → List ℕ → ℕ → ℕ
hang_place labels places at = unwrap_or (find (λ other. is_like (ordered_at labels other) (ordered_at labels at)) places) at

abbrev pub hang_of : List Ordered → List ℕ → ℕ → Option Hang
hang_of labels places at =
    if is_some (ordered_at labels at).text then Some (record { label = at; at = hang_place labels places at }) else None

-- the texts of the labels within a row, which hang below it
unfoldable pub hangs_of : RowView → List Ordered → List Hang
hangs_of row labels = filter_map (hang_of labels (within_row row labels)) (within_row row labels)

-- the label has a text, and its bar ends in the row
abbrev pub ends_with_text : RowView → Ordered → Bool
ends_with_text row label =
    not (nat_le row.offset label.span.start) && nat_le label.span.end (row.offset + row.length) && is_some label.text

-- the labels whose texts stand below a row at the ends of their bars
unfoldable pub ends_of : RowView → List Ordered → List ℕ
ends_of row labels = filter (λ at. ends_with_text row (ordered_at labels at)) (across_row row labels)

-- what contracts see of the plan of a row, and of a snippet
pub record RowPlanView : Type 0 where
  pub row : RowView
  pub bars : List Bar
  pub marks : List MarkCells
  pub hangs : List Hang
  pub ends : List ℕ

pub record SnippetView : Type 0 where
  pub head_line : ℕ
  pub head_column : ℕ
  pub gutter : ℕ
  pub rows : List RowPlanView

abbrev pub row_plan_view : RowPlan → RowPlanView
row_plan_view plan =
    record { row = row_view plan.row; bars = plan.bars.items; marks = plan.marks.items; hangs = plan.hangs.items; ends = plan.ends.items }

abbrev pub snippet_view : SnippetPlan → SnippetView
snippet_view plan =
    record { head_line = plan.head_line; head_column = plan.head_column; gutter = plan.gutter; rows = map row_plan_view plan.rows.items }

-- the plan of a row, of all labels in label order; `tab` is the distance of the tab stops
unfoldable pub row_plan_of : ℕ → List Ordered → RowView → RowPlanView
row_plan_of tab labels row =
    record {
      row = row;
      bars = bars_of row labels;
      marks = row_marks tab row (spans_of labels);
      hangs = hangs_of row labels;
      ends = ends_of row labels;
    }

-- the plan of a row that no label meets
abbrev pub bare_plan : RowView → RowPlanView
bare_plan row = record { row = row; bars = []; marks = []; hangs = []; ends = [] }

-- the label at whose start a group's head points: the first primary one, else the first
unfoldable pub head_label : List Ordered → Range ℕ → Ordered
head_label labels group =
    unwrap_or (find (λ l. l.primary) (slice_range labels group.start group.end)) (ordered_at labels group.start)

-- the row and the byte column of that start, from 0
abbrev pub head_place : List ℕ → List Ordered → Range ℕ → Place
head_place source labels group = place_of (length source) (breaks_of source) (head_label labels group).span.start

-- the most bars beside one row
unfoldable pub gutter_of : List RowPlanView → ℕ
gutter_of rows = fold (λ most row. max most (length row.bars)) 0 rows

-- the plans of the rows of a group's window
unfoldable pub row_plans_of : ℕ → List ℕ → List Ordered → Range ℕ → List RowPlanView
row_plans_of tab source labels group =
    map (row_plan_of tab labels) (rows_in source (group_window (length source) (breaks_of source) (spans_of labels) group))

-- the snippet of a group of labels; its head counts from 1
unfoldable pub snippet_of : ℕ → List ℕ → List Ordered → Range ℕ → SnippetView
snippet_of tab source labels group =
    record {
      head_line = (head_place source labels group).row + 1;
      head_column = (head_place source labels group).column + 1;
      gutter = gutter_of (row_plans_of tab source labels group);
      rows = row_plans_of tab source labels group;
    }

-- the snippets of labels of a source, one for each group
unfoldable pub snippets_of : ℕ → List ℕ → List Label → List SnippetView
snippets_of tab source labels = map (snippet_of tab source (in_order labels)) (groups_in source labels)
