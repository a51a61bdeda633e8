-- The line of marks under a row.
use Rattle.std.specs.Prelude.{ℕ, ◌-◌, ◌≤◌, ◌<◌, ◌==◌, ◌&&◌, nat_le, nat_lt, Bool, List, [], ◌∷◌, ◌++◌, encode_utf8, if◌then◌else◌}
use Rattle.std.specs.List.{find}
use Rattle.std.specs.Option.{option_map, unwrap_or, is_some}
use Rattle.oxc_plan.specs.declared.marks.MarkCells.{MarkCells}
use Rattle.oxc_handlers.specs.Cells.{repeated, cells}
use Rattle.oxc_handlers.specs.Setting.{SettingView, text_at, is_empty_at, highlight}
use Rattle.oxc_handlers.specs.Theme.{styled}

-- a mark holds a column
abbrev pub holds : ℕ → MarkCells → Bool
holds c m = nat_le m.start c && nat_lt c m.end

-- what stands at the bar of a label: an arrow where it is empty, the beginning of a bar where it has a text, else the line
unfoldable pub marker : SettingView → ℕ → ℕ
marker setting label =
    if is_empty_at setting.labels label then setting.theme.characters.uarrow
    else if is_some (text_at setting.labels label) then setting.theme.characters.underbar
    else setting.theme.characters.underline

-- the character of a mark at a column that it holds
abbrev pub mark_char : SettingView → ℕ → MarkCells → ℕ
mark_char setting c m = if c == m.bar then marker setting m.label else setting.theme.characters.underline

-- the character of the line at a column: a space where no mark holds it
abbrev pub char_at : SettingView → List MarkCells → ℕ → ℕ
char_at setting marks c = unwrap_or (option_map (mark_char setting c) (find (holds c) marks)) 0x20

abbrev pub cell_at : SettingView → List MarkCells → ℕ → List ℕ
cell_at setting marks c = encode_utf8 (char_at setting marks c)

-- the columns up to the end of the last mark, cut at the ends of the marks, each piece in the style of its label
unfoldable pub mark_pieces : SettingView → List MarkCells → ℕ → List MarkCells → List ℕ
mark_pieces setting marks before [] = []
mark_pieces setting marks before (m ∷ more) =
    styled (highlight setting.theme m.label) (cells (cell_at setting marks) before (m.end - before)) ++ mark_pieces setting marks m.end more

-- the mark line
unfoldable pub mark_line : SettingView → List MarkCells → List ℕ
mark_line setting marks = mark_pieces setting marks 0 marks

-- marks stand one after the other, each with its bar within
pub record IsMark (before : ℕ) (m : MarkCells) : Type 0 where
  pub start : before ≤ m.start
  pub bar : m.start ≤ m.bar
  pub end : m.bar < m.end

abbrev pub AreOrdered : ℕ → List MarkCells → Type 0
AreOrdered before [] = Unit {0}
AreOrdered before (m ∷ more) = IsMark before m × AreOrdered m.end more

-- a mark behind the one before, as it is written
unfoldable pub drawn_mark : SettingView → ℕ → MarkCells → List ℕ
drawn_mark setting before m =
    let line = encode_utf8 setting.theme.characters.underline in
    styled (highlight setting.theme m.label)
    (repeated (m.start - before) (encode_utf8 0x20) ++ repeated (m.bar - m.start) line ++ encode_utf8 (marker setting m.label) ++ repeated (m.end - m.bar - 1) line)
