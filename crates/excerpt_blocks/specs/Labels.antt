-- Labels: the marks of a block with the texts that are theirs.
use Rattle.std.specs.Prelude.{ℕ, ◌+◌, ◌-◌, ◌==◌, ◌&&◌, ◌||◌, not, nat_lt, if◌then◌else◌, Bool, true, false, List, [], ◌∷◌, ◌++◌, length, take, drop, Option, Some, None}
use Rattle.std.specs.List.{list_any}
use Rattle.std.specs.Option.{is_none}
use Rattle.excerpt_lines.specs.declared.tables.CharClass.{CharClass}
use Rattle.excerpt_blocks.specs.declared.below.Row.{Row}
use Rattle.excerpt_blocks.specs.declared.below.Mark.{Mark}
use Rattle.excerpt_blocks.specs.declared.below.Text.{Text}
use Rattle.excerpt_blocks.specs.declared.labels.Spot.{Spot}
use Rattle.excerpt_blocks.specs.declared.labels.Label.{Label}
use Rattle.excerpt_blocks.specs.declared.labels.Run.{Run}
use Rattle.excerpt_blocks.specs.declared.labels.Phase.{Phase}
use Rattle.excerpt_blocks.specs.declared.labels.Phase.TheVariants.{First, Over, Covered}
use Rattle.excerpt_blocks.specs.declared.below.Begun.{Begun}
use Rattle.excerpt_blocks.specs.Below.{State, class_number, is_of, is_same}

abbrev pub is_first_mark : Mark → Bool
is_first_mark mark = mark.first

abbrev pub is_dash : CharClass → Bool
is_dash class = class_number class == 1

abbrev pub is_caret : CharClass → Bool
is_caret class = class_number class == 0

abbrev pub begins_at : Option ℕ → Option ℕ → Option ℕ → ℕ → Bool
begins_at None column number start = false
begins_at (Some line) None number start = false
begins_at (Some line) (Some column) None start = false
begins_at (Some line) (Some column) (Some number) start = line == number && nat_lt 0 column && start == column - 1

-- a mark begins where the finding is
abbrev pub begins : Spot → Row → Mark → Bool
begins spot row mark = begins_at spot.line spot.column row.number mark.start

-- the runs of a row, counted from a number
abbrev pub runs_from : Spot → Row → List Text → ℕ → List Mark → List Run
runs_from spot row texts number [] = []
runs_from spot row texts number (mark ∷ marks) =
    record { mark = mark; number = number; said = list_any (is_of number) texts; begins = begins spot row mark } ∷ runs_from spot row texts (number + 1) marks

-- no span of rows ends at a run
abbrev pub is_plain : Run → Bool
is_plain run = is_none run.mark.begun

-- three runs touch, and no span of rows ends at one of them
abbrev pub are_joined : Run → Run → Run → Bool
are_joined run over covered = is_plain run && is_plain over && is_plain covered && run.mark.end_cell == over.mark.cell && over.mark.end_cell == covered.mark.cell

-- the next run is drawn over one that goes on after it: they touch, the outer two are of one class, the first has a text
-- or begins at the finding's place, and the last has no text
abbrev pub covers_two : Run → List Run → Bool
covers_two run [] = false
covers_two run (over ∷ []) = false
covers_two run (over ∷ (covered ∷ rest)) =
    are_joined run over covered && is_same run.mark.class covered.mark.class
    && not (is_same run.mark.class over.mark.class) && (run.said || run.begins) && not covered.said

abbrev pub extended : Run → List Run → Run
extended run [] = run
extended run (over ∷ []) = run
extended run (over ∷ (covered ∷ rest)) = record run { mark = record run.mark { end = covered.mark.end; end_cell = covered.mark.end_cell } }

-- the runs, with each that another is drawn over whole again
abbrev pub overlaid_from : Phase → List Run → List Run
overlaid_from phase [] = []
overlaid_from First (run ∷ rest) = if covers_two run rest then extended run rest ∷ overlaid_from Over rest else run ∷ overlaid_from First rest
overlaid_from Over (run ∷ rest) = run ∷ overlaid_from Covered rest
overlaid_from Covered (run ∷ rest) = overlaid_from First rest

-- a run of `^` that goes on from one of `-` at the finding's place begins there
abbrev pub goes_on : Run → Run → Bool
goes_on first run = is_plain first && is_plain run && first.mark.end_cell == run.mark.cell && first.begins && is_dash first.mark.class && run.mark.first && is_caret run.mark.class

abbrev pub shifted : Option Run → Run → Run
shifted None run = run
shifted (Some first) run = if goes_on first run then record run { mark = record run.mark { start = first.mark.start; cell = first.mark.cell } } else run

abbrev pub begun_from : Option Run → List Run → List Run
begun_from before [] = []
begun_from before (run ∷ rest) = shifted before run ∷ begun_from (Some (shifted before run)) rest

-- a text hangs from a run
abbrev pub is_hung : Run → Text → Bool
is_hung run text = is_of run.number text && not text.beside

abbrev pub is_elsewhere : Run → ℕ → Text → Bool
is_elsewhere run cell text = is_hung run text && not (text.cell == cell)

abbrev pub many_from : Run → List Text → List Text → Bool
many_from run all [] = false
many_from run all (text ∷ texts) = if is_hung run text then list_any (is_elsewhere run text.cell) all else many_from run all texts

-- texts hang from several cells of a run
abbrev pub has_many : Run → List Text → Bool
has_many run texts = many_from run texts texts

abbrev pub is_at : Run → ℕ → Text → Bool
is_at run cell text = is_hung run text && text.cell == cell

-- a text is the first that hangs from its cell of a run
abbrev pub is_new : Run → List Text → Text → Bool
is_new run earlier text = is_hung run text && not (list_any (is_at run text.cell) earlier)

abbrev pub is_left : Run → ℕ → Text → Bool
is_left run cell text = is_hung run text && nat_lt text.cell cell

-- no text hangs from a cell of a run left of this one's
abbrev pub is_least : Run → List Text → Text → Bool
is_least run texts text = not (list_any (is_left run text.cell) texts)

-- a mark marks what was found; `~` does so if nothing else does
abbrev pub is_primary : Bool → Mark → Bool
is_primary strong mark = mark.first || (not strong && is_caret mark.class)

abbrev pub begun_row : ℕ → Option Begun → ℕ
begun_row row None = row
begun_row row (Some begun) = begun.row

abbrev pub begun_column : ℕ → Option Begun → ℕ
begun_column start None = start
begun_column start (Some begun) = begun.column

-- where a span of rows ends, the label begins where that does
abbrev pub label_at : Bool → Run → ℕ → Option ℕ → Bool → Label
label_at strong run start hung beside = record { row = run.mark.row; mark = run.number; start_row = begun_row run.mark.row run.mark.begun; start = begun_column start run.mark.begun; end = run.mark.end; primary = is_primary strong run.mark; hung = hung; beside = beside }

-- the label of the texts that hang from one cell of a run: it begins there, or with the run, if it is the first
abbrev pub part_label : Bool → Run → List Text → Text → Label
part_label strong run texts text = label_at strong run (if is_least run texts text then run.mark.start else text.column) (Some text.cell) (is_least run texts text)

abbrev pub parts_from : Bool → Run → List Text → List Text → List Text → List Label
parts_from strong run all earlier [] = []
parts_from strong run all earlier (text ∷ texts) =
    if is_new run earlier text then part_label strong run all text ∷ parts_from strong run all (earlier ++ text ∷ []) texts else parts_from strong run all (earlier ++ text ∷ []) texts

-- the labels of a run: one, or one for each cell at which texts hang from it
unfoldable pub run_labels : Bool → Run → List Text → List Label
run_labels strong run texts = if has_many run texts then parts_from strong run texts [] texts else label_at strong run run.mark.start None true ∷ []

abbrev pub labels_from : Bool → List Text → List Run → List Label
labels_from strong texts [] = []
labels_from strong texts (run ∷ runs) = run_labels strong run texts ++ labels_from strong texts runs

unfoldable pub row_labels : Bool → Spot → Row → List Mark → List Text → List Label
row_labels strong spot row marks texts = labels_from strong texts (begun_from None (overlaid_from First (runs_from spot row texts row.marks marks)))

abbrev pub next_marks : List Row → ℕ → ℕ
next_marks [] all = all
next_marks (row ∷ rows) all = row.marks

abbrev pub next_texts : List Row → ℕ → ℕ
next_texts [] all = all
next_texts (row ∷ rows) all = row.texts

abbrev pub rows_labels : Bool → Spot → State → List Row → List Label
rows_labels strong spot s [] = []
rows_labels strong spot s (row ∷ rows) =
    row_labels strong spot row (take (next_marks rows (length s.marks) - row.marks) (drop row.marks s.marks))
    (take (next_texts rows (length s.texts) - row.texts) (drop row.texts s.texts))
    ++ rows_labels strong spot s rows

-- the labels of a block
unfoldable pub labels_in : Spot → State → List Label
labels_in spot s = rows_labels (list_any is_first_mark s.marks) spot s s.rows

abbrev pub says_at : Label → Text → Option ℕ → Bool
says_at label text None = true
says_at label text (Some cell) = if text.beside then label.beside else text.cell == cell

-- a text is a label's
abbrev pub says : Label → Text → Bool
says label text = is_of label.mark text && says_at label text label.hung
