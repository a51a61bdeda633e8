-- The law that a drawing in the plain theme is read back to what its plan says.
use Rattle.std.specs.Prelude.{ℕ, true, ◌+◌, ◌-◌, ◌≤◌, ◌≡◌, List, [], ◌∷◌, All, None, IfSome}
use Rattle.oxc_plan.specs.declared.marks.MarkCells.{MarkCells}
use Rattle.oxc_plan.specs.Plan.{SnippetView}
use Rattle.oxc_protocol.specs.Parts.{Parts}
use Rattle.oxc_handlers.specs.Refusals.{IsFaultless}
use Rattle.oxc_handlers.specs.Report.{Plan, drawn, icon, plan_of, severity_style, title_indent}
use Rattle.oxc_handlers.specs.Theme.{none_theme, styled}
use Rattle.textwrap.specs.Filled.{filled}
use Rattle.report_reader.specs.Reading.{IsRead}
use Rattle.report_reader.specs.SeenOf.{seen_of}
use Rattle.report_reader.specs.WellFormed.{is_line, HasSizes}

-- a text of one line
abbrev pub IsLine : List ℕ → Type 0
IsLine text = is_line text ≡ true

-- the filled title in the plain theme
abbrev pub filled_title : ℕ → Plan → List ℕ
filled_title width plan =
    filled (width - 2)
    (title_indent none_theme plan.severity (icon none_theme plan.severity))
    (title_indent none_theme plan.severity none_theme.characters.vbar)
    (styled (severity_style none_theme plan.severity) plan.title)

-- each mark starts at least one cell behind the end of the one before
abbrev pub StandApart : ℕ → List MarkCells → Type 0
StandApart least [] = Unit {0}
StandApart least (m ∷ more) = (least ≤ m.start) × StandApart (m.end + 1) more

-- no bar stands beside the rows of a snippet, and the marks under each row stand apart
pub record IsOneRowSnippet (snippet : SnippetView) : Type 0 where
  pub gutter : snippet.gutter ≡ 0
  pub marks : All (λ row. StandApart 0 row.marks) snippet.rows

-- a plan whose drawing can be read back: the filled title, the name and the texts of labels have one line each; there are no bars
-- beside rows, no help and no note; and marks stand apart
pub record IsReadable (width : ℕ) (plan : Plan) : Type 0 where
  pub title : IsLine (filled_title width plan)
  pub name : IfSome plan.name IsLine
  pub texts : All (λ label. IfSome label.text IsLine) plan.labels
  pub help : plan.help ≡ None
  pub note : plan.note ≡ None
  pub snippets : All IsOneRowSnippet plan.snippets

-- the law: the drawing of a view that can be drawn and read back is the text that shows what the plan says; that is well formed, and
-- its numbers are numbers of the machine, so that it is what `read_report` gives
abbrev pub ReadsBack : ℕ → ℕ → Parts → Type 0
ReadsBack width tab parts =
    IsFaultless parts → IsReadable width (plan_of tab parts)
    → IsRead (drawn none_theme width (plan_of tab parts)) (seen_of (plan_of tab parts)) × HasSizes (seen_of (plan_of tab parts)).snippets
