-- A body cut into parts.
use Rattle.std.specs.Prelude.{◌≡◌, ℕ, ◌+◌, ◌==◌, ◌&&◌, ◌||◌, not, nat_eq, nat_le, nat_lt, if◌then◌else◌, Bool, true, false, List, [], ◌∷◌, length, take, drop, slice_index, Option, Some, None, codes}
use Rattle.std.specs.List.{list_all, list_any, starts_with}
use Rattle.std.specs.Option.{is_none, is_some}
use Rattle.excerpt_lines.specs.declared.gutter.Sign.{Sign}
use Rattle.excerpt_lines.specs.declared.gutter.Sign.TheVariants.{Unsigned, Added, Removed, Changed}
use Rattle.excerpt_lines.specs.declared.places.NoteForm.{NoteForm}
use Rattle.excerpt_lines.specs.declared.places.NoteForm.TheVariants.{Led, Margin, Indented}
use Rattle.excerpt_lines.specs.declared.kinds.LineKind.{LineKind}
use Rattle.excerpt_lines.specs.declared.kinds.LineKind.TheVariants.{Empty as EmptyLine, Place as PlaceLine, Note as NoteLine, Row, Marks, Space, Inserted, Loose as LooseLine, Frame, Plain}
use Rattle.excerpt_lines.specs.Kinds.{IsKind}
use Rattle.excerpt_lines.specs.declared.tables.CharClass.TheVariants.{Margin}
use Rattle.excerpt_lines.specs.Gutter.{text_at}
use Rattle.excerpt_lines.specs.Items.{link_in}
use Rattle.excerpt_lines.specs.Runs.{first_ink, run_end}
use Rattle.excerpts.specs.declared.cuts.Outline.{Outline}
use Rattle.excerpts.specs.declared.cuts.Open.{Open}
use Rattle.excerpts.specs.declared.cuts.Part.{Part}
use Rattle.excerpts.specs.declared.cuts.PartKind.{PartKind}
use Rattle.excerpts.specs.declared.cuts.PartKind.TheVariants.{Empty, Place, Note, GoesOn, Frames, Source, Loose, Suggestion, Kept}
use Rattle.excerpt_blocks.specs.declared.labels.Spot.{Spot}

abbrev pub sign_before : ℕ → ℕ → Option Sign
sign_before c next = if next == 0x20 || next == 0 then (if c == 0x2B then Some Added else if c == 0x2D then Some Removed else None) else None

-- the sign of a row without a number and without a bar, after blanks
unfoldable pub bare_sign : List ℕ → Option Sign
bare_sign line = let start = first_ink line in if start == 0 then None else sign_before (slice_index line start) (slice_index line (start + 1))

abbrev pub is_dot : ℕ → Bool
is_dot c = c == 0x2E

-- where the link begins that follows blanks and bars
unfoldable pub margin_link : List ℕ → ℕ → Option ℕ
margin_link line text = let start = run_end Margin line text in if nat_lt start (length line) && link_in line text start then Some start else None

-- the same, if a line has marks
abbrev pub link_of : List ℕ → LineKind → Option ℕ
link_of line EmptyLine = None
link_of line (PlaceLine p) = None
link_of line (NoteLine n) = None
link_of line (Row g) = None
link_of line (Marks g) = margin_link line (text_at line g.bar)
link_of line (Space g) = None
link_of line (Inserted text) = None
link_of line LooseLine = None
link_of line Frame = None
link_of line Plain = None

-- an edit, as gcc and clang print it below a finding: `fix-it:"a.c":{5:8-5:14}:"color"`
abbrev pub is_edit : List ℕ → Bool
is_edit line = starts_with nat_eq line (codes "fix-it:\"")

-- how they came to a file: `In file included from a.c:1:`
abbrev pub is_include : List ℕ → Bool
is_include line = starts_with nat_eq line (codes "In file included from ")

abbrev pub is_alone : List ℕ → Bool
is_alone line = is_edit line || is_include line

-- what is to be known of a line before it is read
pub record IsOutline (line : List ℕ) (outline : Outline) : Type 0 where
  pub kind : IsKind line outline.kind
  pub indent : outline.indent ≡ first_ink line
  pub length_is : outline.length ≡ length line
  pub sign : outline.sign ≡ bare_sign line
  pub dots : outline.dots ≡ list_any is_dot line
  pub link : outline.link ≡ link_of line outline.kind
  pub alone : outline.alone ≡ is_alone line

abbrev pub line_part : PartKind → ℕ → Part
line_part kind first = record { kind = kind; first = first; lines = 1 }

abbrev pub has_gutter : LineKind → Bool
has_gutter EmptyLine = false
has_gutter (PlaceLine p) = false
has_gutter (NoteLine n) = false
has_gutter (Row g) = true
has_gutter (Marks g) = true
has_gutter (Space g) = true
has_gutter (Inserted text) = true
has_gutter LooseLine = false
has_gutter Frame = false
has_gutter Plain = false

abbrev pub is_empty_kind : LineKind → Bool
is_empty_kind EmptyLine = true
is_empty_kind (PlaceLine p) = false
is_empty_kind (NoteLine n) = false
is_empty_kind (Row g) = false
is_empty_kind (Marks g) = false
is_empty_kind (Space g) = false
is_empty_kind (Inserted text) = false
is_empty_kind LooseLine = false
is_empty_kind Frame = false
is_empty_kind Plain = false

-- a line goes on with a note: it is all blanks, but not empty, or it is indented as far as the note's text; after a note
-- without a leader it has no gutter
abbrev pub goes_on : Open → ℕ → Outline → Bool
goes_on state below line = if line.length == 0 then false else if is_empty_kind line.kind then true else nat_le below line.indent && not (state.under && has_gutter line.kind)

abbrev pub begins_note : Open → NoteForm → Bool
begins_note state Led = true
begins_note state Margin = true
begins_note state Indented = state.announced

abbrev pub is_indented : NoteForm → Bool
is_indented Led = false
is_indented Margin = false
is_indented Indented = true

-- a line may be in a block; after a note without a leader a block goes on up to the next empty, note or place line
abbrev pub in_block : Bool → LineKind → Bool
in_block under EmptyLine = false
in_block under (PlaceLine p) = false
in_block under (NoteLine n) = under && is_indented n.form
in_block under (Row g) = true
in_block under (Marks g) = true
in_block under (Space g) = true
in_block under (Inserted text) = true
in_block under LooseLine = under
in_block under Frame = true
in_block under Plain = under

-- how many lines a block has; a line that stands alone is in none
abbrev pub block_len : Bool → List Outline → ℕ
block_len under [] = 0
block_len under (line ∷ lines) = if line.alone || not (in_block under line.kind) then 0 else 1 + block_len under lines

abbrev pub has_sign : Sign → Bool
has_sign Unsigned = false
has_sign Added = true
has_sign Removed = true
has_sign Changed = true

abbrev pub is_kind_signed : LineKind → Bool
is_kind_signed EmptyLine = false
is_kind_signed (PlaceLine p) = false
is_kind_signed (NoteLine n) = false
is_kind_signed (Row g) = has_sign g.sign
is_kind_signed (Marks g) = false
is_kind_signed (Space g) = false
is_kind_signed (Inserted text) = true
is_kind_signed LooseLine = false
is_kind_signed Frame = false
is_kind_signed Plain = false

abbrev pub is_signed : Outline → Bool
is_signed line = is_kind_signed line.kind

abbrev pub is_frame_kind : LineKind → Bool
is_frame_kind EmptyLine = false
is_frame_kind (PlaceLine p) = false
is_frame_kind (NoteLine n) = false
is_frame_kind (Row g) = false
is_frame_kind (Marks g) = false
is_frame_kind (Space g) = true
is_frame_kind (Inserted text) = false
is_frame_kind LooseLine = false
is_frame_kind Frame = true
is_frame_kind Plain = false

abbrev pub is_framed : Outline → Bool
is_framed line = is_frame_kind line.kind

abbrev pub bar_of : LineKind → Option ℕ
bar_of EmptyLine = None
bar_of (PlaceLine p) = None
bar_of (NoteLine n) = None
bar_of (Row g) = Some g.bar
bar_of (Marks g) = Some g.bar
bar_of (Space g) = Some g.bar
bar_of (Inserted text) = None
bar_of LooseLine = None
bar_of Frame = None
bar_of Plain = None

abbrev pub is_bar_at : Option ℕ → Option ℕ → Bool
is_bar_at bar None = true
is_bar_at None (Some here) = true
is_bar_at (Some bar) (Some here) = bar == here

abbrev pub bar_after : Option ℕ → Option ℕ → Option ℕ
bar_after bar None = bar
bar_after None (Some here) = Some here
bar_after (Some bar) (Some here) = Some bar

-- all bars are in one column
abbrev pub is_straight : Option ℕ → List Outline → Bool
is_straight bar [] = true
is_straight bar (line ∷ lines) = if is_bar_at bar (bar_of line.kind) then is_straight (bar_after bar (bar_of line.kind)) lines else false

-- what a block is: a suggestion after a note without a leader, or with signs; else frames, or rows with bars in one column
abbrev pub drawing : Open → List Outline → Option PartKind
drawing state lines =
    if state.under || list_any is_signed lines then Some Suggestion
    else if list_all is_framed lines then Some Frames
    else if is_straight None lines then Some Source
    else None

abbrev pub is_loose_kind : LineKind → Bool
is_loose_kind EmptyLine = false
is_loose_kind (PlaceLine p) = false
is_loose_kind (NoteLine n) = false
is_loose_kind (Row g) = false
is_loose_kind (Marks g) = false
is_loose_kind (Space g) = false
is_loose_kind (Inserted text) = false
is_loose_kind LooseLine = true
is_loose_kind Frame = false
is_loose_kind Plain = false

abbrev pub is_loose : Outline → Bool
is_loose line = is_loose_kind line.kind

-- how many lines of marks without a gutter come first
abbrev pub loose_run : List Outline → ℕ
loose_run [] = 0
loose_run (line ∷ lines) = if is_loose line then 1 + loose_run lines else 0

-- how many indented lines come first that have no marks below them
abbrev pub indented_len : List Outline → ℕ
indented_len [] = 0
indented_len (line ∷ lines) = if line.indent == 0 || nat_lt 0 (loose_run lines) then 0 else 1 + indented_len lines

abbrev pub first_is_loose : List Outline → Bool
first_is_loose [] = false
first_is_loose (line ∷ lines) = is_loose line

-- a row without a gutter, the marks below it and, if the finding has a column, indented lines below these; it is the only
-- row that is shown. Any other line is kept, but not marks
unfoldable pub loose_or_kept : Spot → Open → ℕ → List Outline → Option Part
loose_or_kept spot state first lines =
    let marks = loose_run (drop 1 lines) in
    if first_is_loose lines then None
    else if marks == 0 || state.shown || is_none spot.line then Some (line_part Kept first)
    else Some (record { kind = Loose; first = first; lines = 1 + marks + (if is_some spot.column then indented_len (drop marks (drop 1 lines)) else 0) })

abbrev pub block_part : ℕ → ℕ → Option PartKind → Option Part
block_part first count None = None
block_part first count (Some kind) = Some (record { kind = kind; first = first; lines = count })

-- a drawing; right after one, nothing else is read
unfoldable pub drawing_or_kept : Spot → Open → ℕ → List Outline → Option Part
drawing_or_kept spot state first lines =
    let count = block_len state.under lines in
    if nat_lt 0 count then block_part first count (drawing state (take count lines))
    else if state.drawn then None
    else loose_or_kept spot state first lines

abbrev pub part_by_kind : Spot → Open → ℕ → List Outline → LineKind → Option Part
part_by_kind spot state first lines EmptyLine = Some (line_part Empty first)
part_by_kind spot state first lines (PlaceLine p) = Some (line_part (Place p) first)
part_by_kind spot state first lines (NoteLine n) = if begins_note state n.form then Some (line_part (Note n) first) else drawing_or_kept spot state first lines
part_by_kind spot state first lines (Row g) = drawing_or_kept spot state first lines
part_by_kind spot state first lines (Marks g) = drawing_or_kept spot state first lines
part_by_kind spot state first lines (Space g) = drawing_or_kept spot state first lines
part_by_kind spot state first lines (Inserted text) = drawing_or_kept spot state first lines
part_by_kind spot state first lines LooseLine = drawing_or_kept spot state first lines
part_by_kind spot state first lines Frame = drawing_or_kept spot state first lines
part_by_kind spot state first lines Plain = drawing_or_kept spot state first lines

abbrev pub continued : Open → Outline → Option ℕ → Bool
continued state line None = false
continued state line (Some below) = goes_on state below line

abbrev pub below_or_zero : Option ℕ → ℕ
below_or_zero None = 0
below_or_zero (Some below) = below

-- the part that lines begin with: one that stands alone, which is kept, a line that goes on with a note, an empty line, a place, a note, or
-- another one; nothing if it isn't read
unfoldable pub part_in : Spot → Open → ℕ → List Outline → Option Part
part_in spot state first [] = None
part_in spot state first (line ∷ lines) =
    if line.alone then Some (line_part Kept first)
    else if continued state line state.below then Some (line_part (GoesOn (below_or_zero state.below)) first)
    else part_by_kind spot state first (line ∷ lines) line.kind

abbrev pub is_led : NoteForm → Bool
is_led Led = true
is_led Margin = false
is_led Indented = false

-- what is open after a part
abbrev pub after : Open → PartKind → Open
after state Empty = record state { below = None; drawn = false }
after state (Place p) = record state { below = None; under = false; announced = true; drawn = false }
after state (Note n) = record state { below = Some n.text; under = not (is_led n.form); drawn = false }
after state (GoesOn below) = state
after state Frames = record state { below = None; drawn = true }
after state Source = record state { below = None; drawn = true; shown = true }
after state Loose = record state { below = None; shown = true }
after state Suggestion = record state { below = None; drawn = true }
after state Kept = record state { below = None }
