-- Colored lines without their escapes.
use Rattle.std.proofs.Common.{ℕ, ◌+◌, ◌-◌, Bool, true, false, List, [], ◌∷◌, length, encode_utf8, eqb, Some, None, Option, refl, if◌then◌else◌}
use Rattle.std.specs.List.{find}
use Rattle.std.specs.Option.{option_map, option_map_or, unwrap_or, is_some}
use Rattle.oxc_plan.specs.declared.bars.Bar.{Bar}
use Rattle.oxc_plan.specs.declared.bars.BarKind.{BarKind}
use Rattle.oxc_plan.specs.declared.bars.BarKind.TheVariants.{Passes, Starts, Ends}
use Rattle.oxc_plan.specs.declared.marks.MarkCells.{MarkCells}
use Rattle.oxc_plan.specs.declared.hangs.Hang.{Hang}
use Rattle.oxc_plan.specs.Plan.{RowPlanView}
use Rattle.oxc_handlers.specs.declared.text_lines.LabelRenderMode.{LabelRenderMode}
use Rattle.oxc_handlers.specs.declared.text_lines.LabelRenderMode.TheVariants.{SingleLine, BlockFirst, BlockRest}
use Rattle.oxc_handlers.specs.Theme.{unicode_theme, unicode_nocolor_theme}
use Rattle.oxc_handlers.specs.Setting.{SettingView, text_at, is_empty_at}
use Rattle.oxc_handlers.specs.Cells.{repeated}
use Rattle.oxc_handlers.specs.Marks.{marker, mark_char, cell_at, mark_pieces, mark_line, holds}
use Rattle.oxc_handlers.specs.Gutters.{run_of, bar_piece, corner_by, corner, turn, passes, ends, gutter_from, gutter, ending, below_from, gutter_below}
use Rattle.oxc_handlers.specs.Hangs.{earlier, bar_of, bar_cell, bars_before, connector, hung, hanging_line}
use Rattle.oxc_handlers.specs.RowLines.{space, other_front, hang_line, end_connector, end_line, marks_line}
use Rattle.oxc_handlers.proofs.StripsColors.{Strips, strips-nil, strips-append, strips-clean, strips-repeated, strips-cells, strips-highlight}

abbrev pub colored : SettingView → SettingView
colored s = record { theme = unicode_theme; labels = s.labels; tab = s.tab; gutter = s.gutter; digits = s.digits }

abbrev pub bare : SettingView → SettingView
bare s = record { theme = unicode_nocolor_theme; labels = s.labels; tab = s.tab; gutter = s.gutter; digits = s.digits }

pub strips-if : (b : Bool) (a c x y : List ℕ) → Strips a x → Strips c y → Strips (if b then a else c) (if b then x else y)
strips-if true a c x y ax cy = ax
strips-if false a c x y ax cy = cy

strips-char_if : (b : Bool) (c d x y : ℕ) → Strips (encode_utf8 c) (encode_utf8 x) → Strips (encode_utf8 d) (encode_utf8 y) → Strips (encode_utf8 (if b then c else d)) (encode_utf8 (if b then x else y))
strips-char_if true c d x y cx dy = cx
strips-char_if false c d x y cx dy = dy

-- characters that stay
pub clean-0A : Strips (encode_utf8 0x0A) (encode_utf8 0x0A)
unfolding lib.Utf8.encode
clean-0A = strips-clean (encode_utf8 0x0A) refl

pub clean-20 : Strips (encode_utf8 0x20) (encode_utf8 0x20)
unfolding lib.Utf8.encode
clean-20 = strips-clean (encode_utf8 0x20) refl

pub clean-2500 : Strips (encode_utf8 0x2500) (encode_utf8 0x2500)
unfolding lib.Utf8.encode
clean-2500 = strips-clean (encode_utf8 0x2500) refl

pub clean-2502 : Strips (encode_utf8 0x2502) (encode_utf8 0x2502)
unfolding lib.Utf8.encode
clean-2502 = strips-clean (encode_utf8 0x2502) refl

pub clean-251C : Strips (encode_utf8 0x251C) (encode_utf8 0x251C)
unfolding lib.Utf8.encode
clean-251C = strips-clean (encode_utf8 0x251C) refl

pub clean-2524 : Strips (encode_utf8 0x2524) (encode_utf8 0x2524)
unfolding lib.Utf8.encode
clean-2524 = strips-clean (encode_utf8 0x2524) refl

pub clean-252C : Strips (encode_utf8 0x252C) (encode_utf8 0x252C)
unfolding lib.Utf8.encode
clean-252C = strips-clean (encode_utf8 0x252C) refl

pub clean-256D : Strips (encode_utf8 0x256D) (encode_utf8 0x256D)
unfolding lib.Utf8.encode
clean-256D = strips-clean (encode_utf8 0x256D) refl

pub clean-2570 : Strips (encode_utf8 0x2570) (encode_utf8 0x2570)
unfolding lib.Utf8.encode
clean-2570 = strips-clean (encode_utf8 0x2570) refl

pub clean-25B2 : Strips (encode_utf8 0x25B2) (encode_utf8 0x25B2)
unfolding lib.Utf8.encode
clean-25B2 = strips-clean (encode_utf8 0x25B2) refl

pub clean-25B6 : Strips (encode_utf8 0x25B6) (encode_utf8 0x25B6)
unfolding lib.Utf8.encode
clean-25B6 = strips-clean (encode_utf8 0x25B6) refl

pub clean-3A : Strips (encode_utf8 0x3A) (encode_utf8 0x3A)
unfolding lib.Utf8.encode
clean-3A = strips-clean (encode_utf8 0x3A) refl

pub clean-5B : Strips (encode_utf8 0x5B) (encode_utf8 0x5B)
unfolding lib.Utf8.encode
clean-5B = strips-clean (encode_utf8 0x5B) refl

pub clean-5D : Strips (encode_utf8 0x5D) (encode_utf8 0x5D)
unfolding lib.Utf8.encode
clean-5D = strips-clean (encode_utf8 0x5D) refl

pub clean-B7 : Strips (encode_utf8 0xB7) (encode_utf8 0xB7)
unfolding lib.Utf8.encode
clean-B7 = strips-clean (encode_utf8 0xB7) refl

pub strips-spaces : (n : ℕ) → Strips (repeated n space) (repeated n space)
strips-spaces n = strips-repeated n space space clean-20

pub strips-run_of : (s : SettingView) (label n c d : ℕ) → Strips (encode_utf8 c) (encode_utf8 d) → Strips (run_of (colored s) label n c) (run_of (bare s) label n d)
strips-run_of s label n c d cd = strips-highlight label (repeated n (encode_utf8 c)) (repeated n (encode_utf8 d)) (strips-repeated n (encode_utf8 c) (encode_utf8 d) cd)

pub strips-bar_piece : (s : SettingView) (label : ℕ) → Strips (bar_piece (colored s) label) (bar_piece (bare s) label)
unfolding bar_piece
strips-bar_piece s label = strips-run_of s label 1 0x2502 0x2502 clean-2502

strips-corner_by : (s : SettingView) (kind : BarKind) (label : ℕ) → Strips (encode_utf8 (corner_by (colored s) kind label)) (encode_utf8 (corner_by (bare s) kind label))
strips-corner_by s Starts label = clean-256D
strips-corner_by s Passes label = strips-char_if (is_some (text_at s.labels label)) 0x251C 0x2570 0x251C 0x2570 clean-251C clean-2570
strips-corner_by s Ends label = strips-char_if (is_some (text_at s.labels label)) 0x251C 0x2570 0x251C 0x2570 clean-251C clean-2570

strips-turn : (s : SettingView) (place : ℕ) (bar : Bar) → Strips (turn (colored s) place bar) (turn (bare s) place bar)
unfolding turn corner
strips-turn s place bar =
    strips-append _ _ _ _ (strips-append _ _ _ _ (strips-append _ _ _ _
    (strips-run_of s bar.label 1 (corner (colored s) bar) (corner (bare s) bar) (strips-corner_by s bar.kind bar.label))
    (strips-run_of s bar.label (s.gutter - place) 0x2500 0x2500 clean-2500))
    (strips-run_of s bar.label 1 0x25B6 0x25B6 clean-25B6))
    (strips-spaces 1)

strips-gutter_from : (s : SettingView) (place : ℕ) (bars : List Bar) → Strips (gutter_from (colored s) place bars) (gutter_from (bare s) place bars)
unfolding gutter_from
strips-gutter_from s place [] = strips-spaces (s.gutter + 3 - place)
strips-gutter_from s place (bar ∷ more) =
    strips-if (passes bar.kind) _ _ _ _ (strips-append _ _ _ _ (strips-bar_piece s bar.label) (strips-gutter_from s (place + 1) more)) (strips-turn s place bar)

pub strips-gutter : (s : SettingView) (bars : List Bar) → Strips (gutter (colored s) bars) (gutter (bare s) bars)
unfolding gutter
strips-gutter s bars = strips-if (eqb s.gutter 0) _ _ _ _ strips-nil (strips-gutter_from s 0 bars)

strips-ending : (s : SettingView) (mode : LabelRenderMode) (place label : ℕ) → Strips (ending (colored s) mode place label) (ending (bare s) mode place label)
unfolding ending
strips-ending s SingleLine place label =
    strips-append _ _ _ _ (strips-run_of s label 1 0x2570 0x2570 clean-2570) (strips-run_of s label (s.gutter - place + 2) 0x2500 0x2500 clean-2500)
strips-ending s BlockFirst place label =
    strips-append _ _ _ _ (strips-run_of s label 1 0x2570 0x2570 clean-2570) (strips-run_of s label (s.gutter - place + 1) 0x2500 0x2500 clean-2500)
strips-ending s BlockRest place label = strips-spaces (s.gutter - place + 2)

strips-below_from : (s : SettingView) (mode : LabelRenderMode) (place : ℕ) (bars : List Bar) → Strips (below_from (colored s) mode place bars) (below_from (bare s) mode place bars)
unfolding below_from
strips-below_from s mode place [] = strips-spaces (s.gutter + 3 - place)
strips-below_from s mode place (bar ∷ more) =
    strips-if (ends bar.kind) _ _ _ _ (strips-ending s mode place bar.label) (strips-append _ _ _ _ (strips-bar_piece s bar.label) (strips-below_from s mode (place + 1) more))

pub strips-gutter_below : (s : SettingView) (mode : LabelRenderMode) (bars : List Bar) → Strips (gutter_below (colored s) mode bars) (gutter_below (bare s) mode bars)
unfolding gutter_below
strips-gutter_below s mode bars = strips-if (eqb s.gutter 0) _ _ _ _ strips-nil (strips-below_from s mode 0 bars)

strips-marker : (s : SettingView) (label : ℕ) → Strips (encode_utf8 (marker (colored s) label)) (encode_utf8 (marker (bare s) label))
unfolding marker
strips-marker s label =
    strips-char_if (is_empty_at s.labels label) _ _ _ _ clean-25B2
    (strips-char_if (is_some (text_at s.labels label)) _ _ _ _ clean-252C clean-2500)

strips-mark_cell : (s : SettingView) (c : ℕ) (found : Option MarkCells)
    → Strips (encode_utf8 (unwrap_or (option_map (mark_char (colored s) c) found) 0x20)) (encode_utf8 (unwrap_or (option_map (mark_char (bare s) c) found) 0x20))
strips-mark_cell s c None = clean-20
strips-mark_cell s c (Some m) = strips-char_if (eqb c m.bar) _ _ _ _ (strips-marker s m.label) clean-2500

strips-mark_pieces : (s : SettingView) (all : List MarkCells) (before : ℕ) (marks : List MarkCells) → Strips (mark_pieces (colored s) all before marks) (mark_pieces (bare s) all before marks)
unfolding mark_pieces
strips-mark_pieces s all before [] = strips-nil
strips-mark_pieces s all before (m ∷ more) =
    strips-append _ _ _ _
    (strips-highlight m.label _ _ (strips-cells (cell_at (colored s) all) (cell_at (bare s) all) before (m.end - before) (λ c. strips-mark_cell s c (find (holds c) all))))
    (strips-mark_pieces s all m.end more)

pub strips-mark_line : (s : SettingView) (marks : List MarkCells) → Strips (mark_line (colored s) marks) (mark_line (bare s) marks)
unfolding mark_line
strips-mark_line s marks = strips-mark_pieces s marks 0 marks

strips-bar_cell : (s : SettingView) (found : Option MarkCells)
    → Strips (option_map_or (λ m. bar_piece (colored s) m.label) found space) (option_map_or (λ m. bar_piece (bare s) m.label) found space)
strips-bar_cell s None = clean-20
strips-bar_cell s (Some m) = strips-bar_piece s m.label

strips-connector : (s : SettingView) (mode : LabelRenderMode) → Strips (connector (colored s) mode) (connector (bare s) mode)
unfolding connector
strips-connector s SingleLine = strips-append _ _ _ _ clean-2570 (strips-repeated 2 _ _ clean-2500)
strips-connector s BlockFirst =
    strips-append _ _ _ _ (strips-append _ _ _ _ clean-2570 clean-2500) clean-2524
strips-connector s BlockRest = strips-append _ _ _ _ (strips-spaces 2) clean-2502

pub strips-hanging_line : (s : SettingView) (marks : List MarkCells) (hang : Hang) (mode : LabelRenderMode) (line : List ℕ) → Strips line line
    → Strips (hanging_line (colored s) marks hang mode line) (hanging_line (bare s) marks hang mode line)
unfolding hanging_line bars_before hung
strips-hanging_line s marks hang mode line clean =
    strips-append _ _ _ _
    (strips-cells (bar_cell (colored s) (earlier hang.at marks)) (bar_cell (bare s) (earlier hang.at marks)) 0 (bar_of hang.at marks) (λ c. strips-bar_cell s (find (λ m. eqb m.bar c) (earlier hang.at marks))))
    (strips-highlight hang.label _ _ (strips-append _ _ _ _ (strips-append _ _ _ _ (strips-connector s mode) clean-20) (strips-highlight hang.label line line clean)))

strips-other_front : (s : SettingView) → Strips (other_front (colored s)) (other_front (bare s))
unfolding other_front
strips-other_front s = strips-append _ _ _ _ (strips-append _ _ _ _ (strips-spaces (s.digits + 2)) clean-B7) clean-20

pub strips-hang_line : (s : SettingView) (row : RowPlanView) (hang : Hang) (line : LabelRenderMode × List ℕ) → Strips line.1 line.1 → Strips (hang_line (colored s) row hang line) (hang_line (bare s) row hang line)
unfolding hang_line
strips-hang_line s row hang line clean =
    strips-append _ _ _ _ (strips-append _ _ _ _ (strips-append _ _ _ _ (strips-other_front s) (strips-gutter_below s SingleLine row.bars)) (strips-hanging_line s row.marks hang line.0 line.1 clean)) clean-0A

pub strips-marks_line : (s : SettingView) (row : RowPlanView) → Strips (marks_line (colored s) row) (marks_line (bare s) row)
unfolding marks_line
strips-marks_line s row =
    strips-if (eqb (length row.marks) 0) _ _ _ _ strips-nil
    (strips-append _ _ _ _ (strips-append _ _ _ _ (strips-append _ _ _ _ (strips-other_front s) (strips-gutter_below s SingleLine row.bars)) (strips-mark_line s row.marks)) clean-0A)

strips-end_connector : (s : SettingView) (mode : LabelRenderMode) → Strips (encode_utf8 (end_connector (colored s) mode)) (encode_utf8 (end_connector (bare s) mode))
unfolding end_connector
strips-end_connector s SingleLine = clean-2500
strips-end_connector s BlockFirst = clean-2524
strips-end_connector s BlockRest = clean-2502

pub strips-end_line : (s : SettingView) (row : RowPlanView) (label : ℕ) (line : LabelRenderMode × List ℕ) → Strips line.1 line.1 → Strips (end_line (colored s) row label line) (end_line (bare s) row label line)
unfolding end_line
strips-end_line s row label line clean =
    strips-append _ _ _ _ (strips-append _ _ _ _ (strips-append _ _ _ _ (strips-append _ _ _ _ (strips-append _ _ _ _ (strips-other_front s) (strips-gutter_below s line.0 row.bars))
    (strips-run_of s label 1 _ _ (strips-end_connector s line.0))) clean-20) (strips-highlight label line.1 line.1 clean)) clean-0A
