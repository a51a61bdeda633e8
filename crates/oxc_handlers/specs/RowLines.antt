-- The lines of a row of a snippet.
use Rattle.std.specs.Prelude.{ℕ, true, ◌+◌, ◌-◌, ◌≤◌, ◌<◌, ◌^◌, ◌==◌, ◌≡◌, List, [], ◌∷◌, ◌++◌, All, encode_utf8, decimal, length, reverse, if◌then◌else◌}
use Rattle.std.specs.List.{flat_map, slice_split}
use Rattle.std.specs.Option.{option_map_or}
use Rattle.oxc_plan.specs.Plan.{RowPlanView}
use Rattle.oxc_plan.specs.declared.hangs.Hang.{Hang}
use Rattle.oxc_handlers.specs.declared.text_lines.LabelRenderMode.{LabelRenderMode}
use Rattle.oxc_handlers.specs.declared.text_lines.LabelRenderMode.TheVariants.{SingleLine, BlockFirst, BlockRest}
use Rattle.oxc_handlers.specs.Cells.{repeated}
use Rattle.oxc_handlers.specs.Gutters.{gutter, gutter_below, run_of}
use Rattle.oxc_handlers.specs.Hangs.{hanging_line, has_mark}
use Rattle.oxc_handlers.specs.Marks.{mark_line, AreOrdered}
use Rattle.oxc_handlers.specs.Setting.{SettingView, text_at, highlight}
use Rattle.oxc_handlers.specs.Texts.{shown_text}
use Rattle.oxc_handlers.specs.Theme.{styled}

abbrev pub space : List ℕ
space = encode_utf8 0x20

abbrev pub lf : List ℕ
lf = encode_utf8 0x0A

-- what stands before each line that is no row
unfoldable pub other_front : SettingView → List ℕ
other_front setting = repeated (setting.digits + 2) space ++ encode_utf8 setting.theme.characters.vbar_break ++ space

-- the number of a row, to the right
unfoldable pub padded : SettingView → ℕ → List ℕ
padded setting number = styled setting.theme.styles.linum (repeated (setting.digits - length (decimal number)) space ++ decimal number)

-- what stands before a row
unfoldable pub row_front : SettingView → ℕ → List ℕ
row_front setting number = space ++ padded setting number ++ space ++ encode_utf8 setting.theme.characters.vbar ++ space

-- the row itself
unfoldable pub row_line : SettingView → RowPlanView → List ℕ
row_line setting row = row_front setting row.row.number ++ gutter setting row.bars ++ shown_text setting.tab row.row.text ++ lf

-- the marks under it, if it has some
unfoldable pub marks_line : SettingView → RowPlanView → List ℕ
marks_line setting row =
    if length row.marks == 0 then []
    else other_front setting ++ gutter_below setting SingleLine row.bars ++ mark_line setting row.marks ++ lf

-- lines, each with how it is drawn: alone, as the first of several, or as a later one
abbrev pub modes_from : LabelRenderMode → List (List ℕ) → List (LabelRenderMode × List ℕ)
modes_from mode [] = []
modes_from mode (line ∷ more) = (mode, line) ∷ modes_from BlockRest more

abbrev pub first_mode : ℕ → LabelRenderMode
first_mode n = if n == 1 then SingleLine else BlockFirst

abbrev pub with_modes : List (List ℕ) → List (LabelRenderMode × List ℕ)
with_modes lines = modes_from (first_mode (length lines)) lines

-- the lines of a text, between LFs
abbrev pub lines_of : List ℕ → List (List ℕ)
lines_of text = slice_split (λ b. b == 10) text

-- the lines of the text of a label: none where it has no text
unfoldable pub label_lines : SettingView → ℕ → List (LabelRenderMode × List ℕ)
label_lines setting label = option_map_or (λ text. with_modes (lines_of text)) (text_at setting.labels label) []

-- a line of a hanging text
unfoldable pub hang_line : SettingView → RowPlanView → Hang → LabelRenderMode × List ℕ → List ℕ
hang_line setting row hang line = other_front setting ++ gutter_below setting SingleLine row.bars ++ hanging_line setting row.marks hang line.0 line.1 ++ lf

unfoldable pub hang_lines : SettingView → RowPlanView → Hang → List ℕ
hang_lines setting row hang = flat_map (hang_line setting row hang) (label_lines setting hang.label)

-- the lines of all texts that hang at the marks of the row, from the last label to the first
abbrev pub hanging_lines : SettingView → RowPlanView → List ℕ
hanging_lines setting row = flat_map (hang_lines setting row) (reverse row.hangs)

-- what ties the text of a label to the gutter in which it ends
unfoldable pub end_connector : SettingView → LabelRenderMode → ℕ
end_connector setting SingleLine = setting.theme.characters.hbar
end_connector setting BlockFirst = setting.theme.characters.rcross
end_connector setting BlockRest = setting.theme.characters.vbar

-- a line of the text of a label that ends in the row
unfoldable pub end_line : SettingView → RowPlanView → ℕ → LabelRenderMode × List ℕ → List ℕ
end_line setting row label line =
    other_front setting ++ gutter_below setting line.0 row.bars ++ run_of setting label 1 (end_connector setting line.0) ++ space ++ styled (highlight setting.theme label) line.1 ++ lf

unfoldable pub end_lines : SettingView → RowPlanView → ℕ → List ℕ
end_lines setting row label = flat_map (end_line setting row label) (label_lines setting label)

-- the lines of all texts of labels that end in the row
abbrev pub ending_lines : SettingView → RowPlanView → List ℕ
ending_lines setting row = flat_map (end_lines setting row) row.ends

-- all lines of a row: itself, its marks, the texts that hang at them from the last label to the first, and the texts of the
-- labels that end in it
unfoldable pub row_lines : SettingView → RowPlanView → List ℕ
row_lines setting row =
    row_line setting row
    ++ marks_line setting row
    ++ hanging_lines setting row
    ++ ending_lines setting row

-- a row that can be drawn
pub record IsRow (setting : SettingView) (row : RowPlanView) : Type 0 where
  pub bars : length row.bars ≤ setting.gutter
  pub ordered : AreOrdered 0 row.marks
  pub hangs : All (λ h. has_mark h.at row.marks ≡ true) row.hangs
  pub text : length row.row.text < 2 ^ 32
  pub gutter : setting.gutter < 2 ^ 63
  pub digits : setting.digits < 2 ^ 62
