-- A mark line without styles, by its columns.
use Rattle.std.proofs.Common.{◌≡◌, ℕ, ◌-◌, ◌≤◌, List, [], ◌∷◌, ◌++◌, sym, ap, ◌∙◌, arith, append-nil}
use Rattle.oxc_plan.specs.declared.marks.MarkCells.{MarkCells}
use Rattle.oxc_handlers.specs.declared.theme.Style.TheVariants.{Plain}
use Rattle.oxc_handlers.specs.Setting.{SettingView, highlight}
use Rattle.oxc_handlers.specs.Cells.{cells}
use Rattle.oxc_handlers.specs.Theme.{styled}
use Rattle.oxc_handlers.specs.Marks.{cell_at, mark_line, mark_pieces, AreOrdered}
use Rattle.oxc_handlers.specs.Places.{HasColumns, last_end}
use Rattle.oxc_handlers.proofs.DrawableLemmas.{in_order}
use Rattle.oxc_handlers.proofs.CellsLemmas.{cells_between, cells_none}
use Rattle.oxc_handlers.proofs.PlacesLemmas.{styled_plain}

last_end-le : (before : ℕ) (marks : List MarkCells) → AreOrdered before marks → before ≤ last_end before marks
last_end-le before [] ordered = omega arith
last_end-le before (m ∷ more) (mark, ordered) = omega (arith, mark.start, mark.bar, mark.end, last_end-le m.end more ordered)

pieces_plain : (setting : SettingView) (all : List MarkCells) (before : ℕ) (marks : List MarkCells) → ((label : ℕ) → highlight setting.theme label ≡ Plain) → AreOrdered before marks
    → mark_pieces setting all before marks ≡ cells (cell_at setting all) before (last_end before marks - before)
unfolding mark_pieces
pieces_plain setting all before [] plain_all ordered =
    let size : before - before ≡ 0 = omega arith in
    sym (ap (cells (cell_at setting all) before) size ∙ cells_none (cell_at setting all) before)
pieces_plain setting all before (m ∷ more) plain_all (mark, ordered) =
    let f = cell_at setting all in
    ap (λ style. styled style (cells f before (m.end - before)) ++ mark_pieces setting all m.end more) (plain_all m.label)
    ∙ ap (λ l. l ++ mark_pieces setting all m.end more) (styled_plain (cells f before (m.end - before)))
    ∙ ap (λ l. cells f before (m.end - before) ++ l) (pieces_plain setting all m.end more plain_all ordered)
    ∙ sym (cells_between f before m.end (last_end m.end more) (omega (arith, mark.start, mark.bar, mark.end)) (last_end-le m.end more ordered))

pub line_columns : (setting : SettingView) (marks : List MarkCells) → HasColumns setting marks
unfolding mark_line
line_columns setting marks plain order =
    let size : last_end 0 marks - 0 ≡ last_end 0 marks = omega arith in
    pieces_plain setting marks 0 marks plain (in_order 0 marks order) ∙ ap (cells (cell_at setting marks) 0) size
