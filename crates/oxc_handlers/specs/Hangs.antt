-- Texts that hang below marks.
use Rattle.std.specs.Prelude.{ℕ, ◌-◌, ◌==◌, Bool, List, ◌++◌, encode_utf8, take}
use Rattle.std.specs.List.{find, position_or_len, list_any}
use Rattle.std.specs.Option.{option_map_or}
use Rattle.oxc_plan.specs.declared.marks.MarkCells.{MarkCells}
use Rattle.oxc_plan.specs.declared.hangs.Hang.{Hang}
use Rattle.oxc_handlers.specs.declared.text_lines.LabelRenderMode.{LabelRenderMode}
use Rattle.oxc_handlers.specs.declared.text_lines.LabelRenderMode.TheVariants.{SingleLine, BlockFirst, BlockRest}
use Rattle.oxc_handlers.specs.Cells.{repeated, cells}
use Rattle.oxc_handlers.specs.Gutters.{bar_piece}
use Rattle.oxc_handlers.specs.Setting.{SettingView, highlight}
use Rattle.oxc_handlers.specs.Theme.{styled}

-- the marks before that of a label
abbrev pub earlier : ℕ → List MarkCells → List MarkCells
earlier label marks = take (position_or_len (λ m. m.label == label) marks) marks

abbrev pub has_mark : ℕ → List MarkCells → Bool
has_mark label marks = list_any (λ m. m.label == label) marks

-- the column of the bar of a label
abbrev pub bar_of : ℕ → List MarkCells → ℕ
bar_of label marks = option_map_or (λ m. m.bar) (find (λ m. m.label == label) marks) 0

-- what a column before that bar holds: the bar of an earlier label, or a space
abbrev pub bar_cell : SettingView → List MarkCells → ℕ → List ℕ
bar_cell setting marks c = option_map_or (λ m. bar_piece setting m.label) (find (λ m. m.bar == c) marks) (encode_utf8 0x20)

-- the line up to the bar of a label
unfoldable pub bars_before : SettingView → ℕ → List MarkCells → List ℕ
bars_before setting label marks = cells (bar_cell setting (earlier label marks)) 0 (bar_of label marks)

-- what ties a text to its bar
unfoldable pub connector : SettingView → LabelRenderMode → List ℕ
connector setting SingleLine = encode_utf8 setting.theme.characters.lbot ++ repeated 2 (encode_utf8 setting.theme.characters.hbar)
connector setting BlockFirst = encode_utf8 setting.theme.characters.lbot ++ encode_utf8 setting.theme.characters.hbar ++ encode_utf8 setting.theme.characters.rcross
connector setting BlockRest = repeated 2 (encode_utf8 0x20) ++ encode_utf8 setting.theme.characters.vbar

-- a line of the text of a label, behind the bars
unfoldable pub hung : SettingView → ℕ → LabelRenderMode → List ℕ → List ℕ
hung setting label mode line =
    let style = highlight setting.theme label in
    styled style (connector setting mode ++ encode_utf8 0x20 ++ styled style line)

-- a line of a hanging text
unfoldable pub hanging_line : SettingView → List MarkCells → Hang → LabelRenderMode → List ℕ → List ℕ
hanging_line setting marks hang mode line = bars_before setting hang.at marks ++ hung setting hang.label mode line

-- the bar of an earlier label, as it is written
unfoldable pub hung_bar : SettingView → ℕ → MarkCells → List ℕ
hung_bar setting from m = repeated (m.bar - from) (encode_utf8 0x20) ++ bar_piece setting m.label
