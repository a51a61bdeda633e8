-- The gutters of rows, and those of the lines under them.
use Rattle.std.specs.Prelude.{ℕ, Bool, true, false, ◌+◌, ◌-◌, ◌==◌, List, [], ◌∷◌, ◌++◌, encode_utf8, if◌then◌else◌}
use Rattle.std.specs.Option.{is_some}
use Rattle.oxc_plan.specs.declared.bars.Bar.{Bar}
use Rattle.oxc_plan.specs.declared.bars.BarKind.{BarKind}
use Rattle.oxc_plan.specs.declared.bars.BarKind.TheVariants.{Passes, Starts, Ends}
use Rattle.oxc_handlers.specs.declared.text_lines.LabelRenderMode.{LabelRenderMode}
use Rattle.oxc_handlers.specs.declared.text_lines.LabelRenderMode.TheVariants.{SingleLine, BlockFirst, BlockRest}
use Rattle.oxc_handlers.specs.Cells.{repeated}
use Rattle.oxc_handlers.specs.Setting.{SettingView, text_at, highlight}
use Rattle.oxc_handlers.specs.Theme.{styled}

-- a character some times over, in the style of a label
abbrev pub run_of : SettingView → ℕ → ℕ → ℕ → List ℕ
run_of setting label n c = styled (highlight setting.theme label) (repeated n (encode_utf8 c))

-- a bar in the style of a label
unfoldable pub bar_piece : SettingView → ℕ → List ℕ
bar_piece setting label = run_of setting label 1 setting.theme.characters.vbar

-- the corner of a label that ends: a cross where its text stands below
abbrev pub end_corner : SettingView → ℕ → ℕ
end_corner setting label = if is_some (text_at setting.labels label) then setting.theme.characters.lcross else setting.theme.characters.lbot

abbrev pub corner_by : SettingView → BarKind → ℕ → ℕ
corner_by setting Starts label = setting.theme.characters.ltop
corner_by setting Passes label = end_corner setting label
corner_by setting Ends label = end_corner setting label

-- the corner of a label that starts or ends
unfoldable pub corner : SettingView → Bar → ℕ
corner setting bar = corner_by setting bar.kind bar.label

-- what is drawn from a corner at a place on: a line to the row's text, and an arrow
unfoldable pub turn : SettingView → ℕ → Bar → List ℕ
turn setting place bar =
    run_of setting bar.label 1 (corner setting bar)
    ++ run_of setting bar.label (setting.gutter - place) setting.theme.characters.hbar
    ++ run_of setting bar.label 1 setting.theme.characters.rarrow
    ++ repeated 1 (encode_utf8 0x20)

abbrev pub passes : BarKind → Bool
passes Passes = true
passes Starts = false
passes Ends = false

abbrev pub ends : BarKind → Bool
ends Passes = false
ends Starts = false
ends Ends = true

-- the bars from a place on: the first label that starts or ends turns to the row's text, and no bar is drawn after it
unfoldable pub gutter_from : SettingView → ℕ → List Bar → List ℕ
gutter_from setting place [] = repeated (setting.gutter + 3 - place) (encode_utf8 0x20)
gutter_from setting place (bar ∷ more) =
    if passes bar.kind then bar_piece setting bar.label ++ gutter_from setting (place + 1) more
    else turn setting place bar

-- the gutter of a row: none where no row of the snippet has a bar
unfoldable pub gutter : SettingView → List Bar → List ℕ
gutter setting bars = if setting.gutter == 0 then [] else gutter_from setting 0 bars

-- what is drawn under a row where a label ends, by which line of a text it is
unfoldable pub ending : SettingView → LabelRenderMode → ℕ → ℕ → List ℕ
ending setting SingleLine place label = run_of setting label 1 setting.theme.characters.lbot ++ run_of setting label (setting.gutter - place + 2) setting.theme.characters.hbar
ending setting BlockFirst place label = run_of setting label 1 setting.theme.characters.lbot ++ run_of setting label (setting.gutter - place + 1) setting.theme.characters.hbar
ending setting BlockRest place label = repeated (setting.gutter - place + 2) (encode_utf8 0x20)

-- the bars from a place on: the first label that ends, ends the gutter
unfoldable pub below_from : SettingView → LabelRenderMode → ℕ → List Bar → List ℕ
below_from setting mode place [] = repeated (setting.gutter + 3 - place) (encode_utf8 0x20)
below_from setting mode place (bar ∷ more) =
    if ends bar.kind then ending setting mode place bar.label
    else bar_piece setting bar.label ++ below_from setting mode (place + 1) more

-- the gutter of a line under a row
unfoldable pub gutter_below : SettingView → LabelRenderMode → List Bar → List ℕ
gutter_below setting mode bars = if setting.gutter == 0 then [] else below_from setting mode 0 bars
