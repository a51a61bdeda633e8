-- What is still to come of a walk over pieces.
use Rattle.std.specs.Prelude.{ℕ, List, [], ◌∷◌, ◌++◌, take, drop, map, string_bytes, if◌then◌else◌}
use Rattle.found_reports.specs.Held.{Held}
use Rattle.found_reports.specs.Found.{Found}
use Rattle.tool_lines.specs.Lines.{is_kept}
use Rattle.line_reports.specs.Pieces.{ReadParts, read_parts}
use Rattle.girzohal_options.specs.declared.Asked.{Asked}
use Rattle.drawn_lines.specs.Lines.{in_place, reports_before}
use Rattle.drawn_lines.specs.Counts.{count_of, count_with}
use Rattle.drawn_lines.specs.declared.count.Count.{Count}
use Rattle.drawn_lines.specs.declared.walk.Walk.{Walk}

-- the pieces behind the last line that was kept
abbrev pub before_of : Walk → List ReadParts
before_of walk = map read_parts (take walk.len walk.first.now)

-- the text so far, and what these pieces add
abbrev pub walked : Asked → (List ℕ → Held) → Walk → List ReadParts → List ℕ
walked asked given walk reads =
    string_bytes walk.text
    ++ in_place asked given walk.most (before_of walk) (map (λ line. line.now) walk.from.now) (map (λ line. line.now) walk.left.now)
    (map (λ line. line.now) walk.shown.now) reads

-- the reports of pieces as they are drawn: those of the pieces before a line that is kept, and then those behind it
unfoldable pub reports_placed : Asked → (List ℕ → Held) → List ReadParts → List (List ℕ) → List (List ℕ) → List ReadParts → List Found
reports_placed asked given before from lines [] = reports_before asked given from before
reports_placed asked given before from lines (read ∷ reads) =
    let behind = drop read.piece.lines lines in
    if is_kept read.piece.begun.sort
    then reports_before asked given from before ++ reports_placed asked given [] behind behind reads
    else reports_placed asked given (before ++ read ∷ []) from behind reads

-- how many there were so far, and those of these pieces
abbrev pub counted_to : Asked → (List ℕ → Held) → Walk → List ReadParts → Count
counted_to asked given walk reads =
    count_with walk.count
    (count_of asked (reports_placed asked given (before_of walk) (map (λ line. line.now) walk.from.now) (map (λ line. line.now) walk.left.now) reads))
