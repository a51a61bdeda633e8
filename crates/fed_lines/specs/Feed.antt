-- The pieces of lines that come one at a time.
use Rattle.std.specs.Prelude.{◌≡◌, ℕ, ◌+◌, ◌==◌, ◌||◌, ◌&&◌, not, if◌then◌else◌, Bool, true, false, List, [], ◌∷◌, ◌++◌, length, drop, map, Option, Some, None}
use Rattle.std.specs.Option.{is_some}
use Rattle.fed_lines.specs.declared.whole.Cut.{Cut}
use Rattle.tool_lines.specs.declared.lines.Sort.{Sort}
use Rattle.tool_lines.specs.declared.lines.Sort.TheVariants.{Kept, Heading, Below, Announced, Inline, Spaced}
use Rattle.line_shapes.specs.Shape.{ShapeParts}
use Rattle.tool_lines.specs.Lines.{ArePieces, IsPiece, BegunParts, FindingParts, PieceParts, announced, announced_by, begun, below_at, head, in_trail, is_kept, name_behind, piece}

-- a line ends each trail, whatever follows; `apart`: an empty line doesn't
abbrev pub ends_trails : List ShapeParts → Bool → List ℕ → Bool
ends_trails shapes apart line = (not apart && (length line == 0)) || not (is_kept (begun shapes line None).sort)

abbrev pub trail_at : List ShapeParts → Bool → ℕ → List ℕ → Option (List ℕ) → Option ℕ → Option ℕ
trail_at shapes apart n line None later = if ends_trails shapes apart line then Some n else None
trail_at shapes apart n line (Some next) later = if in_trail shapes apart line (Some next) then later else Some n

-- where a trail ends, if no line behind these can change it; the first of these lines has this number
abbrev pub trail_end : List ShapeParts → Bool → ℕ → List (List ℕ) → Option ℕ
trail_end shapes apart n [] = None
trail_end shapes apart n (line ∷ lines) = trail_at shapes apart n line (head lines) (trail_end shapes apart (n + 1) lines)

-- the same of the lines behind an arrow
abbrev pub announced_end : ℕ → List (List ℕ) → Option ℕ
announced_end n [] = None
announced_end n (line ∷ lines) = if (length line == 0) || is_some (announced line (head lines)) then Some n else announced_end (n + 1) lines

abbrev pub arrow_end : List (List ℕ) → Option ℕ
arrow_end [] = None
arrow_end (arrow ∷ lines) = announced_end 1 lines

-- how many lines belong to what begins on the line before, if no line behind these can change it
abbrev pub run_end : List ShapeParts → Sort → List (List ℕ) → Option ℕ
run_end shapes Kept lines = Some 0
run_end shapes Heading lines = Some 0
run_end shapes Below lines = Some 0
run_end shapes Announced lines = arrow_end lines
run_end shapes Inline lines = trail_end shapes false 0 lines
run_end shapes Spaced lines = trail_end shapes true 0 lines

-- what belongs to a piece of this sort ends at a line, whatever stands behind it
abbrev pub ends_at : List ShapeParts → Sort → List ℕ → Bool
ends_at shapes Kept line = true
ends_at shapes Heading line = true
ends_at shapes Below line = true
ends_at shapes Announced line = length line == 0
ends_at shapes Inline line = ends_trails shapes false line
ends_at shapes Spaced line = ends_trails shapes true line

abbrev pub so_long : BegunParts → Option ℕ → Option PieceParts
so_long begun_here None = None
so_long begun_here (Some count) = Some (record { lines = 1 + count; begun = begun_here })

abbrev pub piece_at : List ShapeParts → List ℕ → Option (List ℕ) → List (List ℕ) → Option PieceParts
piece_at shapes line None lines = None
piece_at shapes line (Some next) lines = let begun_here = begun shapes line (Some next) in so_long begun_here (run_end shapes begun_here.sort lines)

-- the piece that begins with a line and these behind it
abbrev pub piece_behind : List ShapeParts → List ℕ → List (List ℕ) → Option PieceParts
piece_behind shapes line lines = piece_at shapes line (head lines) lines

-- a finding below a heading
abbrev pub below_piece : FindingParts → PieceParts
below_piece finding = record { lines = 1; begun = record { sort = Below; finding = Some finding } }

abbrev pub piece_or : Option FindingParts → Option PieceParts → Option PieceParts
piece_or (Some finding) other = Some (below_piece finding)
piece_or None other = other

-- the piece that begins with the first of these lines, if no line behind them can change it
abbrev pub known_piece : List ShapeParts → Option (List ℕ) → List (List ℕ) → Option PieceParts
known_piece shapes name [] = None
known_piece shapes name (line ∷ lines) = piece_or (below_at name line) (piece_behind shapes line lines)

-- a line to come can change the piece that begins with the first of these lines, or there is none
abbrev pub IsNoneKnown : List ShapeParts → Option (List ℕ) → List (List ℕ) → Type 0
IsNoneKnown shapes name lines = known_piece shapes name lines ≡ None

-- the first piece of each text that begins with these lines
abbrev pub IsFirst : List ShapeParts → Option (List ℕ) → List (List ℕ) → PieceParts → Type 0
IsFirst shapes name lines p = (more : List (List ℕ)) → IsPiece shapes name (lines ++ more) p

-- whatever stands behind these lines, their pieces are those given, and then the pieces of what is held
abbrev pub Comes : List ShapeParts → List (List ℕ) → List PieceParts → Option (List ℕ) → List (List ℕ) → Type 0
Comes shapes whole given name left =
    (more : List (List ℕ)) (ps : List PieceParts) → ArePieces shapes name (left ++ more) ps → ArePieces shapes None (whole ++ more) (given ++ ps)

-- the piece that begins with the first of these lines, where there is one
abbrev pub last_piece : List ShapeParts → Option (List ℕ) → List (List ℕ) → Option PieceParts
last_piece shapes name [] = None
last_piece shapes name (line ∷ lines) = Some (piece shapes name (line ∷ lines))

-- where a piece is given its lines go, and the name is that for the lines behind it
abbrev pub Leaves : Option (List ℕ) → List (List ℕ) → Option PieceParts → Option (List ℕ) → List (List ℕ) → Type 0
Leaves name lines None later left = (later ≡ name) × (left ≡ lines)
Leaves name lines (Some p) later left = (later ≡ name_behind p.begun.sort name lines) × (left ≡ drop p.lines lines)

-- the same where no line is to come
abbrev pub Ends : List ShapeParts → List (List ℕ) → List PieceParts → Option (List ℕ) → List (List ℕ) → Type 0
Ends shapes whole given name left = (ps : List PieceParts) → ArePieces shapes name left ps → ArePieces shapes None whole (given ++ ps)

-- behind a run that isn't at its end, of which this is the last line, a line belongs to it and doesn't end it
abbrev pub goes_on : List ShapeParts → Sort → List ℕ → List ℕ → Bool
goes_on shapes Kept last line = false
goes_on shapes Heading last line = false
goes_on shapes Below last line = false
goes_on shapes Announced last line = not ((length line == 0) || is_some (announced_by last line))
goes_on shapes Inline last line = in_trail shapes false last (Some line) && not (ends_trails shapes false line)
goes_on shapes Spaced last line = in_trail shapes true last (Some line) && not (ends_trails shapes true line)

-- where the first piece of these lines isn't known, it isn't with this line behind them
abbrev pub StaysOpen : List ShapeParts → List (List ℕ) → List ℕ → Type 0
StaysOpen shapes lines line = (name : Option (List ℕ)) → known_piece shapes name lines ≡ None → known_piece shapes name (lines ++ line ∷ []) ≡ None

-- what a piece takes of the lines
abbrev pub cut_of : PieceParts → Cut
cut_of p = record { sort = p.begun.sort; lines = p.lines }

-- whatever stands behind these lines, their first pieces are cut so, and then come the pieces of what is held
pub record IsFed (shapes : List ShapeParts) (whole : List (List ℕ)) (cuts : List Cut) (name : Option (List ℕ)) (left : List (List ℕ)) : Type 0 where
  pub pieces : List PieceParts
  pub cut : map cut_of pieces ≡ cuts
  pub come : Comes shapes whole pieces name left

-- the same where no line is to come
pub record IsEnding (shapes : List ShapeParts) (whole : List (List ℕ)) (cuts : List Cut) (name : Option (List ℕ)) (left : List (List ℕ)) : Type 0 where
  pub pieces : List PieceParts
  pub cut : map cut_of pieces ≡ cuts
  pub end : Ends shapes whole pieces name left

-- the pieces of these lines are cut so
pub record AreCut (shapes : List ShapeParts) (lines : List (List ℕ)) (cuts : List Cut) : Type 0 where
  pub pieces : List PieceParts
  pub cut : map cut_of pieces ≡ cuts
  pub are : ArePieces shapes None lines pieces
