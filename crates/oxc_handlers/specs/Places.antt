-- What a gutter and a mark line are without styles: one character for each place.
use Rattle.std.specs.Prelude.{ℕ, Bool, ◌+◌, ◌≤◌, ◌<◌, ◌==◌, ◌≡◌, nat_le, nat_lt, not, List, [], ◌∷◌, encode_utf8, length, slice_index_or, if◌then◌else◌}
use Rattle.std.specs.List.{position_or_len}
use Rattle.oxc_plan.specs.Marks.{AreInOrder}
use Rattle.oxc_plan.specs.Plan.{Ordered}
use Rattle.oxc_plan.specs.declared.bars.Bar.{Bar}
use Rattle.oxc_plan.specs.declared.bars.BarKind.TheVariants.{Passes}
use Rattle.oxc_plan.specs.declared.marks.MarkCells.{MarkCells}
use Rattle.oxc_handlers.specs.declared.theme.GraphicalTheme.{GraphicalTheme}
use Rattle.oxc_handlers.specs.declared.theme.Style.TheVariants.{Plain}
use Rattle.oxc_handlers.specs.Cells.{cells}
use Rattle.oxc_handlers.specs.declared.text_lines.LabelRenderMode.{LabelRenderMode}
use Rattle.oxc_handlers.specs.declared.text_lines.LabelRenderMode.TheVariants.{SingleLine, BlockFirst, BlockRest}
use Rattle.oxc_handlers.specs.Gutters.{passes, ends, corner, gutter, gutter_below}
use Rattle.oxc_handlers.specs.Marks.{cell_at, mark_line}
use Rattle.oxc_handlers.specs.Setting.{SettingView, highlight}

-- labels are drawn without styles
abbrev pub HasPlainLabels : SettingView → Type 0
HasPlainLabels setting = (label : ℕ) → highlight setting.theme label ≡ Plain

-- the first place whose label starts or ends, or the number of bars
abbrev pub first_turn : List Bar → ℕ
first_turn bars = position_or_len (λ b. not (passes b.kind)) bars

-- the character at a place, where the corner stands at `turn`, if there is one: a bar before it, a line from it to the arrow, spaces
-- else
abbrev pub char_by : SettingView → ℕ → Bool → ℕ → ℕ → ℕ
char_by setting turn there at_turn p =
    if nat_lt p turn then setting.theme.characters.vbar
    else if not there then 0x20
    else if p == turn then at_turn
    else if nat_le p setting.gutter then setting.theme.characters.hbar
    else if p == setting.gutter + 1 then setting.theme.characters.rarrow
    else 0x20

-- the bar at a place
abbrev pub bar_at : List Bar → ℕ → Bar
bar_at bars i = slice_index_or bars i (record { label = 0; kind = Passes })

-- the character at a place of the gutter, where the bars stand from `place` on
unfoldable pub char_from : SettingView → ℕ → List Bar → ℕ → ℕ
char_from setting place bars p = char_by setting (place + first_turn bars) (nat_lt (first_turn bars) (length bars)) (corner setting (bar_at bars (first_turn bars))) p

-- the law: without styles a gutter has one character for each of its places, three more than its bars
abbrev pub HasPlaces : SettingView → List Bar → Type 0
HasPlaces setting bars =
    HasPlainLabels setting → 0 < setting.gutter → length bars ≤ setting.gutter
    → gutter setting bars ≡ cells (λ p. encode_utf8 (char_from setting 0 bars p)) 0 (setting.gutter + 3)

-- the first place whose label ends in the row, or the number of bars
abbrev pub first_end : List Bar → ℕ
first_end bars = position_or_len (λ b. ends b.kind) bars

-- what stands under a row from the place of a label that ends on: its corner and a line from it, but nothing beside a later line of
-- its text
abbrev pub ending_char : SettingView → LabelRenderMode → ℕ → ℕ → ℕ
ending_char setting SingleLine corner_at p = if p == corner_at then setting.theme.characters.lbot else setting.theme.characters.hbar
ending_char setting BlockFirst corner_at p = if p == corner_at then setting.theme.characters.lbot else setting.theme.characters.hbar
ending_char setting BlockRest corner_at p = 0x20

-- the places that it goes up to: one less beside a text of several lines, which has a bar of its own there
abbrev pub ending_places : LabelRenderMode → ℕ → ℕ
ending_places SingleLine width = width + 3
ending_places BlockFirst width = width + 2
ending_places BlockRest width = width + 2

-- the character at a place under a row, where the first label that ends stands at `corner_at`, if there is one: a bar before it, what
-- ends there from it on, and spaces where none ends
abbrev pub under_by : SettingView → LabelRenderMode → ℕ → Bool → ℕ → ℕ
under_by setting mode corner_at there p =
    if nat_lt p corner_at then setting.theme.characters.vbar
    else if there then ending_char setting mode corner_at p
    else 0x20

-- the character at a place under a row, where the bars stand from `place` on
unfoldable pub char_under : SettingView → LabelRenderMode → ℕ → List Bar → ℕ → ℕ
char_under setting mode place bars p = under_by setting mode (place + first_end bars) (nat_lt (first_end bars) (length bars)) p

-- the places of the gutter under a row
abbrev pub places_under : SettingView → LabelRenderMode → List Bar → ℕ
places_under setting mode bars =
    if nat_lt (first_end bars) (length bars) then ending_places mode setting.gutter
    else setting.gutter + 3

-- the law: without styles the gutter under a row has one character for each of its places, whatever line stands beside it
abbrev pub HasPlacesUnder : SettingView → List Bar → Type 0
HasPlacesUnder setting bars =
    (mode : LabelRenderMode) → HasPlainLabels setting → 0 < setting.gutter → length bars ≤ setting.gutter
    → gutter_below setting mode bars ≡ cells (λ p. encode_utf8 (char_under setting mode 0 bars p)) 0 (places_under setting mode bars)

-- where the last mark ends
abbrev pub last_end : ℕ → List MarkCells → ℕ
last_end before [] = before
last_end before (m ∷ more) = last_end m.end more

-- the law: without styles a mark line has one character for each column up to the end of its last mark
abbrev pub HasColumns : SettingView → List MarkCells → Type 0
HasColumns setting marks =
    HasPlainLabels setting → AreInOrder 0 marks → mark_line setting marks ≡ cells (cell_at setting marks) 0 (last_end 0 marks)

-- what a gutter and a mark line are drawn by: the theme, the labels in label order and the width of the gutter
abbrev pub drawn_by_theme : GraphicalTheme → List Ordered → ℕ → SettingView
drawn_by_theme theme labels width = record { theme = theme; labels = labels; tab = 4; gutter = width; digits = 1 }
