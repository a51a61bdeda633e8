-- What a drawing may ask of a plan. It holds of every snippet of a plan.
use Rattle.std.specs.Prelude.{◌≡◌, ℕ, ◌+◌, ◌<◌, ◌≤◌, ◌==◌, Bool, true, List, length, All}
use Rattle.std.specs.List.{list_any}
use Rattle.std.specs.Str.{IsUtf8}
use Rattle.oxc_plan.specs.Marks.{AreInOrder}
use Rattle.oxc_plan.specs.Plan.{RowPlanView, SnippetView}
use Rattle.oxc_plan.specs.declared.marks.MarkCells.{MarkCells}

-- the label at a place of label order has one of these marks
abbrev pub is_marked : List MarkCells → ℕ → Bool
is_marked marks at = list_any (λ mark. mark.label == at) marks

-- a row that can be drawn, of a source of so many bytes, with so many labels, beside so wide a gutter
pub record IsDrawableRow (len count gutter : ℕ) (plan : RowPlanView) : Type 0 where
  pub text : IsUtf8 plan.row.text
  pub short : length plan.row.text ≤ plan.row.length
  pub inside : plan.row.offset + plan.row.length ≤ len
  pub number : plan.row.number ≤ len
  pub bars : length plan.bars ≤ gutter
  pub barred : All (λ bar. bar.label < count) plan.bars
  pub marks : AreInOrder 0 plan.marks
  pub marked : All (λ mark. mark.label < count) plan.marks
  pub hangs : All (λ hang. (hang.label < count) × (is_marked plan.marks hang.at ≡ true)) plan.hangs
  pub ends : All (λ at. at < count) plan.ends

-- a snippet that can be drawn, of a source of so many bytes, with so many labels
pub record IsDrawable (len count : ℕ) (plan : SnippetView) : Type 0 where
  pub line : (0 < plan.head_line) × (plan.head_line ≤ len + 1)
  pub column : (0 < plan.head_column) × (plan.head_column ≤ len + 1)
  pub gutter : plan.gutter ≤ count
  pub rows : All (IsDrawableRow len count plan.gutter) plan.rows
