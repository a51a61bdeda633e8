-- A drawn snippet.
use Rattle.std.specs.Prelude.{ℕ, ◌-◌, ◌+◌, ◌<◌, ◌^◌, List, ◌++◌, All, Option, Some, None, encode_utf8, decimal, length, nat_le, if◌then◌else◌}
use Rattle.std.specs.List.{flat_map, slice_get}
use Rattle.std.specs.Option.{option_map_or}
use Rattle.oxc_plan.specs.Drawable.{IsDrawable}
use Rattle.oxc_plan.specs.Plan.{Ordered, RowPlanView, SnippetView}
use Rattle.oxc_handlers.specs.declared.theme.GraphicalTheme.{GraphicalTheme}
use Rattle.oxc_handlers.specs.Cells.{repeated}
use Rattle.oxc_handlers.specs.RowLines.{space, lf, row_lines, IsRow}
use Rattle.oxc_handlers.specs.Setting.{SettingView}
use Rattle.oxc_handlers.specs.Theme.{styled}

-- the digits of the last row's number, and 1 where there is no row
unfoldable pub number_width : List RowPlanView → ℕ
number_width rows = option_map_or (λ r. length (decimal r.row.number)) (slice_get rows (length rows - 1)) 1

-- what the lines of a snippet are drawn by
abbrev pub setting_of : GraphicalTheme → ℕ → List Ordered → SnippetView → SettingView
setting_of theme tab labels snippet = record { theme = theme; labels = labels; tab = tab; gutter = snippet.gutter; digits = number_width snippet.rows }

abbrev pub colon : List ℕ
colon = encode_utf8 0x3A

-- the row and the column to which the head points
unfoldable pub location : SnippetView → List ℕ
location snippet = decimal snippet.head_line ++ colon ++ decimal snippet.head_column

-- what the head says: the source's name and the place; without a name the place alone, or nothing of a snippet of one row
unfoldable pub head_text : SettingView → SnippetView → Option (List ℕ) → List ℕ
head_text setting snippet (Some name) = encode_utf8 0x5B ++ styled setting.theme.styles.link name ++ colon ++ location snippet ++ encode_utf8 0x5D
head_text setting snippet None =
    if nat_le 2 (length snippet.rows) then encode_utf8 0x5B ++ location snippet ++ encode_utf8 0x5D
    else repeated 3 (encode_utf8 setting.theme.characters.hbar)

unfoldable pub head : SettingView → SnippetView → Option (List ℕ) → List ℕ
head setting snippet name =
    repeated (setting.digits + 2) space ++ encode_utf8 setting.theme.characters.ltop ++ encode_utf8 setting.theme.characters.hbar ++ head_text setting snippet name ++ lf

unfoldable pub close : SettingView → List ℕ
close setting = repeated (setting.digits + 2) space ++ encode_utf8 setting.theme.characters.lbot ++ repeated 4 (encode_utf8 setting.theme.characters.hbar) ++ lf

abbrev pub drawn_by : SettingView → Option (List ℕ) → SnippetView → List ℕ
drawn_by setting name snippet = head setting snippet name ++ flat_map (row_lines setting) snippet.rows ++ close setting

-- the lines of a snippet
unfoldable pub drawn_snippet : GraphicalTheme → ℕ → List Ordered → Option (List ℕ) → SnippetView → List ℕ
drawn_snippet theme tab labels name snippet = drawn_by (setting_of theme tab labels snippet) name snippet

-- a snippet that can be drawn
abbrev pub IsSnippet : GraphicalTheme → ℕ → List Ordered → SnippetView → Type 0
IsSnippet theme tab labels snippet = All (IsRow (setting_of theme tab labels snippet)) snippet.rows

-- the same by a setting: what depends on the snippet is made anew for it
abbrev pub drawn_one : SettingView → Option (List ℕ) → SnippetView → List ℕ
drawn_one setting name snippet = drawn_snippet setting.theme setting.tab setting.labels name snippet

abbrev pub drawn_all : SettingView → Option (List ℕ) → List SnippetView → List ℕ
drawn_all setting name snippets = flat_map (drawn_snippet setting.theme setting.tab setting.labels name) snippets

abbrev pub IsSnippetIn : SettingView → SnippetView → Type 0
IsSnippetIn setting snippet = IsSnippet setting.theme setting.tab setting.labels snippet

-- snippets of a short source that can be drawn, where there are so many labels
abbrev pub AreDrawable : ℕ → List SnippetView → Type 0
AreDrawable count snippets = (len : ℕ) × (len < 2 ^ 32) × All (IsDrawable len count) snippets
