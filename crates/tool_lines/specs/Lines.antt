-- The pieces of a text: runs of its lines.
use Rattle.std.specs.Prelude.{◌≡◌, ℕ, ◌+◌, ◌-◌, ◌≤◌, ◌==◌, ◌&&◌, ◌||◌, not, if◌then◌else◌, Bool, true, false, List, [], ◌∷◌, ◌++◌, length, take, drop, map, Option, Some, None, option_map, option_and_then, unwrap_or, slice_get, slice_index}
use Rattle.std.specs.List.{slice_split, suffix_len}
use Rattle.std.specs.Option.{option_or, is_none, is_some}
use Rattle.line_shapes.specs.declared.bytes.Kind.TheVariants.{InBrackets}
use Rattle.line_shapes.specs.declared.part.Part.{Part}
use Rattle.line_shapes.specs.declared.tables.Manner.{Manner}
use Rattle.line_shapes.specs.declared.tables.Manner.TheVariants.{Plain, Ruled, Boxed, Colon, Stars, Alone}
use Rattle.line_shapes.specs.declared.name.NameKind.{NameKind}
use Rattle.line_shapes.specs.declared.name.NameKind.TheVariants.{Any}
use Rattle.line_shapes.specs.declared.tables.TheConstants.{ANNOUNCED, ARROW, ARROWS, ARROW_PLACE, BARE, PLACES, UNDER}
use Rattle.tool_lines.specs.declared.lines.Finding.{Finding}
use Rattle.tool_lines.specs.declared.lines.Sort.{Sort}
use Rattle.tool_lines.specs.declared.lines.Sort.TheVariants.{Kept, Heading, Below, Announced, Inline, Spaced}
use Rattle.tool_lines.specs.declared.lines.Begun.{Begun}
use Rattle.tool_lines.specs.declared.lines.Piece.{Piece}
use Rattle.line_shapes.specs.Bytes.{is_in, before_last}
use Rattle.tool_lines.specs.Columns.{with_column}
use Rattle.tool_lines.specs.Marks.{are_marks, begins_blank, is_fix, is_include, is_inset, is_numbered, is_text, stands_apart, wraps}
use Rattle.tool_lines.specs.Speaks.{speaks}
use Rattle.line_shapes.specs.Part.{Seen, before, may_begin}
use Rattle.line_shapes.specs.Place.{Place, placed, first_some, has_figure, place}
use Rattle.line_shapes.specs.Said.{Words, words, whole, said, meant}
use Rattle.line_shapes.specs.Shape.{ShapeParts, own, first_own}

-- a finding: where it is, and what it says
pub record FindingParts : Type 0 where
  pub place : Place
  pub says : Words

abbrev pub finding_parts : Finding → FindingParts
finding_parts finding = record { place = placed finding.place; says = words finding.says }

-- what begins at a line
pub record BegunParts : Type 0 where
  pub sort : Sort
  pub finding : Option FindingParts

abbrev pub begun_parts : Begun → BegunParts
begun_parts begun = record { sort = begun.sort; finding = option_map finding_parts begun.finding }

pub record PieceParts : Type 0 where
  pub lines : ℕ
  pub begun : BegunParts

abbrev pub piece_parts : Piece → PieceParts
piece_parts piece = record { lines = piece.lines; begun = begun_parts piece.begun }

-- what the first of these shapes finds that is the whole text
abbrev pub whole_among : List (List Part) → Seen → Option Seen
whole_among shapes s = first_some (λ shape. whole shape s) shapes

-- the first of some lines
abbrev pub head : List (List ℕ) → Option (List ℕ)
head [] = None
head (line ∷ lines) = Some line

-- a line without a colon at its end
abbrev pub uncoloned : List ℕ → List ℕ
uncoloned line = unwrap_or (before_last 0x3A line) line

unfoldable pub arrows : List (List Part × List Part)
arrows = map (λ row. (row.1.now, row.2.now)) ARROWS

-- the location of the first of these arrows that a line is
abbrev pub first_arrow : List (List Part × List Part) → List ℕ → Option Place
first_arrow rows line = first_some (λ row. own Any row.0 row.1 line) rows

-- the location in a line that is an arrow other than `-->`; a line that has a location before its message is none
abbrev pub other_arrow : List ℕ → Option Place
other_arrow line = option_and_then (λ (p : Place). if is_some (place line) then None else Some p) (first_arrow arrows line)

-- the location in a line that is an arrow
abbrev pub arrow : List ℕ → Option Place
arrow line = option_or (own Any ARROW ARROW_PLACE (uncoloned line)) (other_arrow line)

-- a line has a message, and the next one, an arrow, has its location
unfoldable pub announced_by : List ℕ → List ℕ → Option FindingParts
announced_by line next =
    option_and_then (λ place. option_map (λ found. record { place = place; says = meant Plain found }) (whole_among (map (λ shape. shape.1.now) ANNOUNCED) (before line)))
    (arrow next)

abbrev pub announced : List ℕ → Option (List ℕ) → Option FindingParts
announced line None = None
announced line (Some next) = announced_by line next

unfoldable pub below : List ℕ → Option Seen
below line = whole UNDER (before line)

-- a line that begins with no blank, and the next fits what stands below a heading
abbrev pub is_heading : List ℕ → Option (List ℕ) → Bool
is_heading line None = false
is_heading line (Some next) = not (length line == 0) && not (begins_blank line) && is_some (below next)

-- the finding in a line, if there is a heading above
abbrev pub below_at : Option (List ℕ) → List ℕ → Option FindingParts
below_at None line = None
below_at (Some name) line = option_map (λ found. record { place = record { name = name; found = found }; says = with_column (meant Plain found) }) (below line)

abbrev pub text_below : Option (List ℕ) → Bool
text_below None = false
text_below (Some next) = is_text next

abbrev pub finding_from : List ℕ → Seen → Manner → FindingParts
finding_from name found manner = record { place = record { name = name; found = found }; says = meant manner found }

-- the finding of a place, of which the message stands below a level, a code or both
unfoldable pub bare : Place → Option FindingParts
bare place = option_map (λ found. finding_from place.name found Plain) (whole_among (map (λ shape. shape.1.now) BARE) place.found)

abbrev pub in_brackets : List ℕ → Bool
in_brackets inner = not (length inner == 0) && (suffix_len (is_in InBrackets) inner == length inner)

abbrev pub tag_behind : List ℕ → Bool
tag_behind rest = slice_index rest (length rest - 1) == 0x5D && in_brackets (take (length rest - 1) rest)

-- a text is a code in brackets
abbrev pub is_tag : List ℕ → Bool
is_tag [] = false
is_tag (x ∷ []) = false
is_tag (x ∷ (y ∷ rest)) = x == 0x5B && tag_behind (y ∷ rest)

abbrev pub tagged_by : Option (List ℕ) → Bool
tagged_by None = false
tagged_by (Some message) = is_tag message

abbrev pub tagged : Seen → Bool
tagged s = tagged_by s.message

abbrev pub is_ruled : Manner → Bool
is_ruled Plain = false
is_ruled Ruled = true
is_ruled Boxed = false
is_ruled Colon = false
is_ruled Stars = false
is_ruled Alone = false

-- the same where it stands below a level, a code, and another code in brackets
unfoldable pub coded_below : Place → Option FindingParts
coded_below place =
    option_and_then (λ it. if is_ruled it.1 && tagged it.0 then Some (finding_from place.name (record it.0 { message = None }) Plain) else None) (said place.found)

-- the same where it stands behind the place
unfoldable pub spoken : List ℕ → Place → Option FindingParts
spoken line place = option_and_then (λ it. if speaks line place it.0 it.1 then Some (finding_from place.name it.0 it.1) else None) (said place.found)

-- one of the two; the flag says whether there is more below
abbrev pub spoken_or_below : Bool → List ℕ → Place → Option FindingParts
spoken_or_below false line place = spoken line place
spoken_or_below true line place = option_or (coded_below place) (spoken line place)

abbrev pub told : Bool → List ℕ → Place → Option FindingParts
told false line place = spoken line place
told true line place = option_or (bare place) (option_or (coded_below place) (spoken line place))

unfoldable pub places : List (List Part × NameKind × List Part)
places = map (λ row. (row.1.now, row.2, row.3.now)) PLACES

-- the location of the first of these rows that a line is
abbrev pub first_place : List (List Part × NameKind × List Part) → List ℕ → Option Place
first_place rows line = first_some (λ row. own row.1 row.0 row.2 line) rows

-- the finding of a line with nothing but a location
abbrev pub parted : List ℕ → Option FindingParts
parted line = option_map (λ (place : Place). record { place = place; says = meant Plain place.found }) (first_place places line)

abbrev pub inline_or : Option Place → List ℕ → Bool → Option FindingParts
inline_or (Some place) line more = Some (record { place = place; says = meant Plain place.found })
inline_or None line more = option_or (option_and_then (told more line) (place line)) (parted line)

-- the finding whose place stands in a line before what it says
abbrev pub inline : List ShapeParts → List ℕ → Option (List ℕ) → Option FindingParts
inline shapes line next = inline_or (first_own shapes line) line (text_below next)

-- the kind of a finding with its location before its message; an empty line may part its line from what follows
abbrev pub inline_sort : Bool → Sort
inline_sort true = Spaced
inline_sort false = Inline

abbrev pub begun_of : Option FindingParts → Bool → Option FindingParts → BegunParts
begun_of (Some finding) heading inline = record { sort = Announced; finding = Some finding }
begun_of None true inline = record { sort = Heading; finding = None }
begun_of None false (Some finding) = record { sort = inline_sort finding.place.found.apart; finding = Some finding }
begun_of None false None = record { sort = Kept; finding = None }

-- what begins at a line that has this one behind it
unfoldable pub begun : List ShapeParts → List ℕ → Option (List ℕ) → BegunParts
begun shapes line next = begun_of (announced line next) (is_heading line next) (inline shapes line next)

-- a line may have the location of the line before it, judged by how it begins, or is another arrow
abbrev pub is_placing : Option (List ℕ) → Bool
is_placing None = false
is_placing (Some next) = may_begin ARROW (uncoloned next) || may_begin UNDER next || is_some (other_arrow next)

-- a line that has this one behind it has no figure or no name with a place, and the place of nothing is behind it: nothing begins there but what shapes of one's own find
abbrev pub is_plain : List ℕ → Option (List ℕ) → Bool
is_plain line next = (is_inset line || not (has_figure line)) && not (is_placing next)

abbrev pub is_kept : Sort → Bool
is_kept Kept = true
is_kept Heading = false
is_kept Below = false
is_kept Announced = false
is_kept Inline = false
is_kept Spaced = false

abbrev pub next_is_marks : Option (List ℕ) → Bool
next_is_marks None = false
next_is_marks (Some next) = are_marks next

-- a line looks like one that belongs to the finding before it
abbrev pub may_trail : List ℕ → Option (List ℕ) → Bool
may_trail line next = begins_blank line || is_numbered line || are_marks line || is_fix line || wraps line next || (not (length line == 0) && next_is_marks next)

abbrev pub is_note : Option FindingParts → Bool
is_note None = false
is_note (Some finding) = finding.says.aside && is_none finding.says.code

-- a note begins at a line, whatever follows
abbrev pub begins_note : List ShapeParts → Option (List ℕ) → Bool
begins_note shapes None = false
begins_note shapes (Some line) = is_note (begun shapes line None).finding

-- a line says how gcc and clang came to the file of the note on the next line
abbrev pub leads_to_note : List ShapeParts → List ℕ → Option (List ℕ) → Bool
leads_to_note shapes line next = is_include line && begins_note shapes next

-- a line belongs to the finding before it; `apart`: an empty line may part the finding's line from it
abbrev pub in_trail : List ShapeParts → Bool → List ℕ → Option (List ℕ) → Bool
in_trail shapes apart line next = (may_trail line next || leads_to_note shapes line next || (apart && stands_apart line next)) && is_kept (begun shapes line next).sort

abbrev pub trail_len : List ShapeParts → Bool → List (List ℕ) → ℕ
trail_len shapes apart [] = 0
trail_len shapes apart (line ∷ lines) = if in_trail shapes apart line (head lines) then 1 + trail_len shapes apart lines else 0

-- how many lines there are before an empty one, or one whose place stands below
abbrev pub announced_len : List (List ℕ) → ℕ
announced_len [] = 0
announced_len (line ∷ lines) = if (length line == 0) || is_some (announced line (head lines)) then 0 else 1 + announced_len lines

abbrev pub behind_arrow : List (List ℕ) → ℕ
behind_arrow [] = 0
behind_arrow (arrow ∷ lines) = 1 + announced_len lines

-- how many lines belong to what begins on the line before
abbrev pub behind : List ShapeParts → Sort → List (List ℕ) → ℕ
behind shapes Kept lines = 0
behind shapes Heading lines = 0
behind shapes Below lines = 0
behind shapes Announced lines = behind_arrow lines
behind shapes Inline lines = trail_len shapes false lines
behind shapes Spaced lines = trail_len shapes true lines

abbrev pub piece_of : Option FindingParts → BegunParts → ℕ → PieceParts
piece_of (Some finding) begun count = record { lines = 1; begun = record { sort = Below; finding = Some finding } }
piece_of None begun count = record { lines = 1 + count; begun = begun }

-- the piece that begins with the first of these lines
abbrev pub piece : List ShapeParts → Option (List ℕ) → List (List ℕ) → PieceParts
piece shapes name [] = record { lines = 0; begun = record { sort = Kept; finding = None } }
piece shapes name (line ∷ lines) = let begun_here = begun shapes line (head lines) in piece_of (below_at name line) begun_here (behind shapes begun_here.sort lines)

-- a line without a CR at its end
abbrev pub without_cr : List ℕ → List ℕ
without_cr line = unwrap_or (before_last 0x0D line) line

-- the lines of a text
unfoldable pub lines_of : List ℕ → List (List ℕ)
lines_of text = map without_cr (slice_split (λ byte. byte == 0x0A) text)

-- the name for the lines behind a piece of this sort, which begins with the first of these lines
abbrev pub name_behind : Sort → Option (List ℕ) → List (List ℕ) → Option (List ℕ)
name_behind Heading name lines = slice_get lines 0
name_behind Below name lines = name
name_behind Kept name lines = None
name_behind Announced name lines = None
name_behind Inline name lines = None
name_behind Spaced name lines = None

-- a piece begins with the first of these lines
pub record IsPiece (shapes : List ShapeParts) (name : Option (List ℕ)) (lines : List (List ℕ)) (p : PieceParts) : Type 0 where
  pub some : 1 ≤ length lines
  pub same : p ≡ piece shapes name lines

-- these are the pieces of these lines, one after another
abbrev pub ArePieces : List ShapeParts → Option (List ℕ) → List (List ℕ) → List PieceParts → Type 0
ArePieces shapes name lines [] = length lines ≡ 0
ArePieces shapes name lines (p ∷ ps) = IsPiece shapes name lines p × ArePieces shapes (name_behind p.begun.sort name lines) (drop p.lines lines) ps

-- the runs of lines of these pieces, joined
abbrev pub runs : List PieceParts → List (List ℕ) → List (List ℕ)
runs [] lines = []
runs (p ∷ ps) lines = take p.lines lines ++ runs ps (drop p.lines lines)

-- the lines of what is left of a text, if anything is
abbrev pub lines_behind : Option (List ℕ) → List (List ℕ)
lines_behind None = []
lines_behind (Some text) = lines_of text

abbrev pub lines_left : Option (List ℕ) → ℕ
lines_left None = 0
lines_left (Some text) = 1 + length text
