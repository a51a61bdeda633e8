-- What is drawn below the rows of a block.
use Rattle.std.specs.Prelude.{ℕ, ◌+◌, ◌-◌, ◌<◌, ◌≤◌, ◌^◌, ◌==◌, ◌&&◌, ◌||◌, not, min, nat_le, nat_lt, if◌then◌else◌, Bool, true, false, List, [], ◌∷◌, ◌++◌, length, drop, slice_get, slice_index, slice_range, Option, Some, None, All, filter, map}
use Rattle.std.specs.List.{find, list_any, position_from, remove}
use Rattle.std.specs.Option.{is_none, is_some}
use Rattle.excerpt_lines.specs.declared.tables.CharClass.{CharClass}
use Rattle.excerpt_lines.specs.declared.tables.CharClass.TheVariants.{Blank, Caret, Dash, First, Plus, Thick, Thin, Triangle}
use Rattle.excerpt_lines.specs.declared.items.Part.{Part}
use Rattle.excerpt_lines.specs.declared.items.Part.TheVariants.{Gutter, Row as RowPart, Mark as MarkPart, Bar, Link, Hook, Text as TextPart, Whole, Lead}
use Rattle.excerpt_lines.specs.declared.items.Item.{Item}
use Rattle.excerpt_lines.specs.Tables.{is_in}
use Rattle.excerpt_lines.specs.Runs.{run_end}
use Rattle.excerpt_lines.specs.Cells.{end_column, start_column}
use Rattle.excerpt_blocks.specs.declared.below.Row.{Row}
use Rattle.excerpt_blocks.specs.declared.below.Mark.{Mark}
use Rattle.excerpt_blocks.specs.declared.below.Hang.{Hang}
use Rattle.excerpt_blocks.specs.declared.below.Text.{Text}
use Rattle.excerpt_blocks.specs.declared.below.Opening.{Opening}
use Rattle.excerpt_blocks.specs.declared.below.Below.{Below}
use Rattle.excerpt_blocks.specs.declared.below.Owner.{Owner}
use Rattle.excerpt_blocks.specs.declared.below.Owner.TheVariants.{Beside, Hung, Nobody}
use Rattle.excerpt_blocks.specs.declared.below.TheConstants.{LIMIT}

-- what is drawn so far: all rows, marks, hangs and texts, the spans that are open, a link that no mark follows yet, how many come before the last row's, where its text begins,
-- how many items are below it, and where the last empty gutter is
pub record State : Type 0 where
  pub rows : List Row
  pub marks : List Mark
  pub hangs : List Hang
  pub texts : List Text
  pub opens : List Opening
  pub link : Option ℕ
  pub marks_before : ℕ
  pub hangs_before : ℕ
  pub texts_before : ℕ
  pub text : ℕ
  pub cell : ℕ
  pub items : ℕ
  pub gap : ℕ

abbrev pub state_of : Below → State
state_of b = record { rows = b.rows.items; marks = b.marks.items; hangs = b.hangs.items; texts = b.texts.items; opens = b.opens.items; link = b.link; marks_before = b.marks_before; hangs_before = b.hangs_before; texts_before = b.texts_before; text = b.text; cell = b.cell; items = b.items; gap = b.gap }

abbrev pub empty_state : State
empty_state = record { rows = []; marks = []; hangs = []; texts = []; opens = []; link = None; marks_before = 0; hangs_before = 0; texts_before = 0; text = 0; cell = 0; items = 0; gap = 0 }

-- a row begins
abbrev pub with_row : State → Row → State
with_row s row = record s { rows = s.rows ++ row ∷ []; marks_before = length s.marks; hangs_before = length s.hangs; texts_before = length s.texts; text = row.text; cell = row.cell; items = 0 }

abbrev pub with_mark : State → Mark → State
with_mark s mark = record s { marks = s.marks ++ mark ∷ [] }

abbrev pub with_hang : State → Hang → State
with_hang s hang = record s { hangs = s.hangs ++ hang ∷ [] }

abbrev pub with_text : State → Text → State
with_text s text = record s { texts = s.texts ++ text ∷ [] }

-- after an item: what is drawn, and the mark that a text is beside of
pub record Step : Type 0 where
  pub state : State
  pub last : Option ℕ

abbrev pub step_to : State → Option ℕ → Step
step_to state last = record { state = state; last = last }

abbrev pub is_first_char : ℕ → Bool
is_first_char c = is_in First c

abbrev pub is_owner : ℕ → Option ℕ → Bool
is_owner mark None = false
is_owner mark (Some owner) = owner == mark

-- a text is a mark's
abbrev pub is_of : ℕ → Text → Bool
is_of mark text = is_owner mark text.mark

-- a mark has a text
unfoldable pub is_said : ℕ → State → Bool
is_said mark s = list_any (is_of mark) (drop s.texts_before s.texts)

-- the text that hangs there is read
abbrev pub is_text_at : Hang → Text → Bool
is_text_at hang text = is_of hang.mark text && text.cell == hang.cell

unfoldable pub is_said_at : Hang → State → Bool
is_said_at hang s = list_any (is_text_at hang) (drop s.texts_before s.texts)

abbrev pub is_over : ℕ → Mark → Bool
is_over cell mark = nat_le mark.cell cell && nat_lt cell mark.end_cell

-- the first mark over a cell that has no text, of marks that are counted from a number
abbrev pub unsaid_from : ℕ → State → ℕ → List Mark → Option ℕ
unsaid_from cell s number [] = None
unsaid_from cell s number (mark ∷ marks) = if is_over cell mark && not (is_said number s) then Some number else unsaid_from cell s (number + 1) marks

unfoldable pub unsaid_in : ℕ → State → Option ℕ
unsaid_in cell s = unsaid_from cell s s.marks_before (drop s.marks_before s.marks)

-- the first mark over a cell
abbrev pub any_from : ℕ → ℕ → List Mark → Option ℕ
any_from cell number [] = None
any_from cell number (mark ∷ marks) = if is_over cell mark then Some number else any_from cell (number + 1) marks

unfoldable pub any_in : ℕ → State → Option ℕ
any_in cell s = any_from cell s.marks_before (drop s.marks_before s.marks)

abbrev pub first_of : Option ℕ → Option ℕ → Option ℕ
first_of None other = other
first_of (Some n) other = Some n

-- the mark of the last row over a cell: of several the first without a text
unfoldable pub holder : ℕ → State → Option ℕ
holder cell s = first_of (unsaid_in cell s) (any_in cell s)

-- where a text hangs or is beside a mark in a cell
unfoldable pub taker : ℕ → State → Option Hang
taker cell s = find (λ (hang : Hang). hang.cell == cell) (drop s.hangs_before s.hangs)

-- the cells below which a text is still to come
unfoldable pub hung_cells : State → List ℕ
hung_cells s = map (λ (hang : Hang). hang.cell) (filter (λ hang. not (is_said_at hang s)) (drop s.hangs_before s.hangs))

-- the mark in some cells, below the last row
abbrev pub mark_in : List ℕ → ℕ → ℕ → CharClass → Bool → State → Mark
mark_in above cell end_cell class first s = record { row = length s.rows - 1; cell = cell; end_cell = end_cell; start = start_column above s.text cell; end = end_column above s.text end_cell; class = class; first = first; begun = None }

-- a mark does not begin left of its row's text
unfoldable pub marked : Mark → State → Option Step
marked mark s = if nat_lt mark.cell s.cell then None else Some (step_to (with_mark s mark) (Some (length s.marks)))

-- the place of a class among those of marks
abbrev pub class_number : CharClass → ℕ
class_number Caret = 0
class_number Dash = 1
class_number Plus = 2
class_number Thick = 3
class_number Thin = 4
class_number Triangle = 5
class_number _ = 6

abbrev pub is_same : CharClass → CharClass → Bool
is_same one other = class_number one == class_number other

-- a link, which a mark has to follow
unfoldable pub linked : Item → State → Option Step
linked item s = if is_some s.link then None else Some (step_to (record s { link = Some item.start }) None)

-- the number of the span that is open with bars at a place
unfoldable pub opening_in : ℕ → State → Option ℕ
opening_in place s = position_from (λ (opening : Opening). opening.place == place) 0 s.opens

-- a span of rows begins at a mark, which isn't kept
unfoldable pub span_opened : ℕ → Mark → State → Option Step
span_opened place mark s =
    if is_some (opening_in place s) || nat_lt mark.cell s.cell then None
    else Some (step_to (record s { opens = s.opens ++ record { place = place; begun = record { row = mark.row; column = mark.start }; class = Some mark.class } ∷ [] }) None)

abbrev pub closes_class : Option CharClass → CharClass → Bool
closes_class None class = true
closes_class (Some one) class = is_same one class

-- a span ends at a mark of the class that it began with, if it began with one
abbrev pub may_close : Opening → Mark → Bool
may_close opening mark = closes_class opening.class mark.class

abbrev pub closed_at : Option Opening → ℕ → Mark → State → Option Step
closed_at None number mark s = None
closed_at (Some opening) number mark s =
    if may_close opening mark then marked (record mark { begun = Some opening.begun }) (record s { opens = remove s.opens number }) else None

abbrev pub closed_by : Option ℕ → Mark → State → Option Step
closed_by None mark s = None
closed_by (Some number) mark s = closed_at (slice_get s.opens number) number mark s

-- the span with bars at a place ends at a mark
unfoldable pub span_closed : ℕ → Mark → State → Option Step
span_closed place mark s = closed_by (opening_in place s) mark s

-- a span begins after a blank in the margin, and ends after a bar there
abbrev pub span_by : ℕ → ℕ → Mark → State → Option Step
span_by c place mark s = if c == 0x20 then span_opened place mark s else if c == 0x7C then span_closed place mark s else None

abbrev pub run_by : List ℕ → Item → Mark → Option ℕ → State → Option Step
run_by line item mark None s = marked mark s
run_by line item mark (Some start) s =
    if start == 0 || nat_lt (length line) start || not (item.end - item.start == 1) then None
    else span_by (slice_index line (start - 1)) (start - 1) mark (record s { link = None })

-- a run of marks is a mark; after a link it is one character, at which a span of rows begins or ends
unfoldable pub run_added : List ℕ → Item → Mark → State → Option Step
run_added line item mark s = run_by line item mark s.link s

-- a span begins with a row, at its first character
abbrev pub row_opened : List ℕ → ℕ → State → State
row_opened line place s = let text = min s.text (length line) in
    record s { opens = s.opens ++ record { place = place; begun = record { row = length s.rows - 1; column = run_end Blank line text - text }; class = None } ∷ [] }

-- a character of a row's margin: a blank, a bar of an open span, or `/`
unfoldable pub margin_step : List ℕ → ℕ → ℕ → State → Option State
margin_step line place c s =
    if c == 0x20 then Some s
    else if c == 0x7C && is_some (opening_in place s) then Some s
    else if not (c == 0x2F) || is_some (opening_in place s) then None
    else Some (row_opened line place s)

abbrev pub then_margin : Option State → (State → Option State) → Option State
then_margin None f = None
then_margin (Some s) f = f s

-- the margin of a row, whose first character has a place in its line
abbrev pub margin_from : List ℕ → ℕ → List ℕ → State → Option State
margin_from line place [] s = Some s
margin_from line place (c ∷ cs) s = then_margin (margin_step line place c s) (λ next. margin_from line (place + 1) cs next)

abbrev pub barred_by : Option ℕ → Item → State → Option Step
barred_by None item s = None
barred_by (Some mark) item s = Some (step_to (with_hang s (record { mark = mark; cell = item.cell; beside = false })) None)

-- a bar in the margin says nothing; any other needs a mark over it, from which a text will hang
unfoldable pub barred : Item → State → Option Step
barred item s =
    if is_some s.link then None
    else if nat_lt item.end s.text then Some (step_to s None)
    else barred_by (holder item.cell s) item s

-- a backtick and one dash
abbrev pub is_tick : List ℕ → Item → Bool
is_tick line item = item.end - item.start == 2 && slice_index line item.start == 0x60

abbrev pub hooked_by : Option ℕ → List ℕ → List ℕ → Item → State → Option Step
hooked_by (Some mark) above line item s = Some (step_to s (Some mark))
hooked_by None above line item s = if is_tick line item then marked (mark_in above item.cell (item.cell + 1) Caret true s) s else None

-- the text after a hook belongs to the mark over it; without one, a backtick and a dash are a mark
unfoldable pub hooked : List ℕ → List ℕ → Item → State → Option Step
hooked above line item s = if is_some s.link then None else hooked_by (holder item.cell s) above line item s

abbrev pub is_mark : Part → Bool
is_mark Gutter = false
is_mark RowPart = false
is_mark (MarkPart class) = true
is_mark Bar = false
is_mark Link = false
is_mark (Hook class) = false
is_mark TextPart = false
is_mark Whole = false
is_mark Lead = false

-- a run of marks ends where an item begins
abbrev pub touches : Option Item → Item → Bool
touches None item = false
touches (Some before) item = is_mark before.part && before.end == item.start

abbrev pub fresh : Option ℕ → State → Option ℕ
fresh None s = None
fresh (Some mark) s = if is_said mark s then None else Some mark

abbrev pub owner_by : Option ℕ → Option Hang → Bool → Option Owner
owner_by (Some mark) hang free = Some (Beside mark)
owner_by None (Some hang) free = Some (Hung hang)
owner_by None None free = if free then Some Nobody else None

-- a text is of the mark just before it, if that has none; else of the mark that it hangs from or goes on with; else, if
-- there are marks and neither a mark nor a hook is just before it, of none
unfoldable pub owner : Option ℕ → ℕ → State → Option Owner
owner last cell s = owner_by (fresh last s) (taker cell s) (is_none last && nat_lt 0 (length s.marks))

abbrev pub text_by : List ℕ → ℕ → Option ℕ → Bool → Item → State → Text
text_by above number mark beside item s = record { mark = mark; row = length s.rows - 1; cell = item.cell; column = start_column above s.text item.cell; beside = beside; line = number; start = item.start; end = item.end }

abbrev pub text_in : List ℕ → ℕ → Owner → Item → State → Text
text_in above number (Beside mark) item s = text_by above number (Some mark) true item s
text_in above number (Hung hang) item s = text_by above number (Some hang.mark) hang.beside item s
text_in above number Nobody item s = text_by above number None false item s

abbrev pub hung_beside : Owner → Item → State → State
hung_beside (Beside mark) item s = with_hang s (record { mark = mark; cell = item.cell; beside = true })
hung_beside (Hung hang) item s = s
hung_beside Nobody item s = s

abbrev pub worded_by : Option Owner → List ℕ → ℕ → Item → State → Option Step
worded_by None above number item s = None
worded_by (Some owner) above number item s = Some (step_to (with_text (hung_beside owner item s) (text_in above number owner item s)) None)

-- a text doesn't touch marks before it, and is somebody's or nobody's
unfoldable pub worded : List ℕ → ℕ → Option Item → Option ℕ → Item → State → Option Step
worded above number previous last item s = if touches previous item || is_some s.link then None else worded_by (owner last item.cell s) above number item s

abbrev pub add_part : Part → List ℕ → List ℕ → ℕ → Option Item → Option ℕ → Item → State → Option Step
add_part Gutter above line number previous last item s = Some (step_to s None)
add_part RowPart above line number previous last item s = None
add_part (MarkPart class) above line number previous last item s =
    run_added line item (mark_in above item.cell item.end_cell class (list_any is_first_char (slice_range line item.start item.end)) s) s
add_part Bar above line number previous last item s = barred item s
add_part Link above line number previous last item s = linked item s
add_part (Hook class) above line number previous last item s = hooked above line item s
add_part TextPart above line number previous last item s = worded above number previous last item s
add_part Whole above line number previous last item s = None
add_part Lead above line number previous last item s = None

-- an item is read below the last row, of which `above` is the line; nothing comes of one that has no meaning there
unfoldable pub add : List ℕ → List ℕ → ℕ → Option Item → Option ℕ → Item → State → Option Step
add above line number previous last item s =
    if nat_le LIMIT s.items then None else add_part item.part above line number previous last item (record s { items = s.items + 1 })

abbrev pub and_then : Option Step → (Step → Option State) → Option State
and_then None f = None
and_then (Some step) f = f step

-- the items of a line are read, one after another
abbrev pub add_all : List ℕ → List ℕ → ℕ → Option Item → Option ℕ → List Item → State → Option State
add_all above line number previous last [] s = Some s
add_all above line number previous last (item ∷ items) s =
    and_then (add above line number previous last item s) (λ step. add_all above line number (Some item) step.last items step.state)

abbrev pub without_link : Option State → Option State
without_link None = None
without_link (Some s) = if is_some s.link then None else Some s

-- all items of a line are read, and no link is left
abbrev pub read_all : List ℕ → List ℕ → ℕ → List Item → State → Option State
read_all above line number items s = without_link (add_all above line number None None items s)

-- an item is in its line
pub record IsWithin (line : List ℕ) (item : Item) : Type 0 where
  pub some : item.start < item.end
  pub within : item.end ≤ length line
  pub cell : item.cell < 2 ^ 39
  pub end_cell : item.end_cell < 2 ^ 39

abbrev pub AreWithin : List ℕ → List Item → Type 0
AreWithin line items = All (IsWithin line) items
