-- What the lemmas on drawn rows speak of.
use Rattle.std.specs.Prelude.{ℕ, true, false, ◌+◌, ◌/◌, ◌^◌, ◌≤◌, ◌<◌, ◌≡◌, List, [], ◌∷◌, ◌++◌, Option, Some, None, IfSome}
use Rattle.std.specs.Str.{IsUtf8}
use Rattle.oxc_plan.specs.declared.hangs.Hang.{Hang}
use Rattle.oxc_plan.specs.declared.marks.MarkCells.{MarkCells}
use Rattle.oxc_plan.specs.Plan.{Ordered, RowPlanView, SnippetView}
use Rattle.oxc_handlers.specs.Hangs.{has_mark}
use Rattle.oxc_handlers.specs.RowLines as lines
use Rattle.oxc_handlers.specs.Setting.{SettingView, text_at, is_empty_at}
use Rattle.oxc_handlers.specs.Snippet.{drawn_snippet}
use Rattle.oxc_handlers.specs.Theme.{none_theme}
use Rattle.report_reader.specs.ReadsBack.{IsLine}
use Rattle.report_reader.specs.SeenOf.{seen_row, seen_snippet}
use Rattle.report_reader.specs.Shown as seen
use Rattle.report_reader.specs.WellFormed.{is_line, is_snippet}

-- the setting of a snippet without gutter under the plain theme
abbrev pub plain_setting : ℕ → List Ordered → ℕ → SettingView
plain_setting tab labels digits = record { theme = none_theme; labels = labels; tab = tab; gutter = 0; digits = digits }

-- each label with a text hangs at its own mark
abbrev pub hang_at : ℕ → Option (List ℕ) → List Hang
hang_at label None = []
hang_at label (Some text) = record { label = label; at = label } ∷ []

abbrev pub hangs_of : List Ordered → List MarkCells → List Hang
hangs_of labels [] = []
hangs_of labels (m ∷ more) = hang_at m.label (text_at labels m.label) ++ hangs_of labels more

-- a mark from a column on, with a text of one line
pub record IsApart (labels : List Ordered) (least : ℕ) (m : MarkCells) (more : List MarkCells) : Type 0 where
  pub start : least ≤ m.start
  pub end : m.start < m.end
  pub bar : m.bar ≡ (m.start + m.end) / 2
  pub text : IfSome (text_at labels m.label) IsLine
  pub once : has_mark m.label more ≡ false

-- marks with at least a column between them
abbrev pub AreApart : List Ordered → ℕ → List MarkCells → Type 0
AreApart labels least [] = least ≤ least
AreApart labels least (m ∷ more) = IsApart labels least m more × AreApart labels (m.end + 1) more

-- a row that can be read back: no label of several rows meets it, and its marks stand apart
pub record IsReadableRow (labels : List Ordered) (row : RowPlanView) : Type 0 where
  pub bars : row.bars ≡ []
  pub ends : row.ends ≡ []
  pub hangs : row.hangs ≡ hangs_of labels row.marks
  pub marks : AreApart labels 0 row.marks

abbrev pub AreReadableRows : List Ordered → List RowPlanView → Type 0
AreReadableRows labels [] = 0 ≤ 0
AreReadableRows labels (row ∷ more) = IsReadableRow labels row × AreReadableRows labels more

-- the lines of a row that are drawn are the lines that are shown
abbrev pub IsRowShown : ℕ → List Ordered → ℕ → RowPlanView → Type 0
IsRowShown tab labels digits row =
    IsReadableRow labels row → lines.row_lines (plain_setting tab labels digits) row ≡ seen.ended (seen.row_lines digits (seen_row tab labels row))

-- and so are those of a snippet without gutter
abbrev pub IsSnippetShown : ℕ → List Ordered → Option (List ℕ) → SnippetView → Type 0
IsSnippetShown tab labels name snippet =
    snippet.gutter ≡ 0 → AreReadableRows labels snippet.rows → drawn_snippet none_theme tab labels name snippet ≡ seen.ended (seen.snippet_lines (seen_snippet tab labels name snippet))

-- the cells of a mark can be counted
pub record IsSized (labels : List Ordered) (m : MarkCells) : Type 0 where
  pub empty : is_empty_at labels m.label ≡ true → m.end ≡ m.start + 1
  pub sum : m.start + m.end < 2 ^ 64

abbrev pub AreSized : List Ordered → List MarkCells → Type 0
AreSized labels [] = 0 ≤ 0
AreSized labels (m ∷ more) = IsSized labels m × AreSized labels more

-- rows from a number on, of texts in UTF-8 without LF
pub record IsRowFrom (labels : List Ordered) (least : ℕ) (row : RowPlanView) : Type 0 where
  pub number : least ≤ row.row.number
  pub utf8 : IsUtf8 row.row.text
  pub text : is_line row.row.text ≡ true
  pub marks : AreSized labels row.marks

abbrev pub AreRowsFrom : List Ordered → ℕ → List RowPlanView → Type 0
AreRowsFrom labels least [] = 0 ≤ 0
AreRowsFrom labels least (row ∷ more) = IsRowFrom labels least row × AreRowsFrom labels row.row.number more

-- what is seen in a snippet is well formed
abbrev pub IsSeenWell : ℕ → List Ordered → Option (List ℕ) → SnippetView → Type 0
IsSeenWell tab labels name snippet =
    1 ≤ snippet.head_line → 1 ≤ snippet.head_column → IfSome name IsLine
    → AreReadableRows labels snippet.rows → AreRowsFrom labels 0 snippet.rows → is_snippet (seen_snippet tab labels name snippet) ≡ true
