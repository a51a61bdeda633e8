-- Empty lines that part a finding from what stands before it. A drawing begins with an empty line itself, so that none is written before it.
use Rattle.std.specs.Prelude.{ℕ, ◌==◌, ◌&&◌, not, Bool, false, List, [], ◌∷◌, length, take, drop, None, if◌then◌else◌}
use Rattle.tool_lines.specs.declared.lines.Sort.TheVariants.{Heading}
use Rattle.tool_lines.specs.Lines.{PieceParts, is_kept}

-- the first of these lines is empty
abbrev pub begins_empty : List (List ℕ) → Bool
begins_empty [] = false
begins_empty (line ∷ lines) = length line == 0

-- a piece with these lines is an empty line that is kept
abbrev pub is_blank : List (List ℕ) → PieceParts → Bool
is_blank run piece = is_kept piece.begun.sort && begins_empty run

-- the first of these pieces isn't kept
abbrev pub begins_passed : List PieceParts → Bool
begins_passed [] = false
begins_passed (piece ∷ pieces) = not (is_kept piece.begun.sort)

-- a piece with these lines is an empty line right before a piece that isn't kept; the other pieces stand behind it
abbrev pub is_parting : List (List ℕ) → PieceParts → List PieceParts → Bool
is_parting run piece pieces = is_blank run piece && begins_passed pieces

-- a piece that is passed as a heading is: its lines are written nowhere
abbrev pub passed : PieceParts → PieceParts
passed piece = record piece { begun = record { sort = Heading; finding = None } }

abbrev pub passed_if : Bool → PieceParts → PieceParts
passed_if is piece = if is then passed piece else piece

-- pieces with the lines that they begin with, of which an empty line right before a piece that isn't kept is passed
abbrev pub unparted : List (List ℕ) → List PieceParts → List PieceParts
unparted lines [] = []
unparted lines (piece ∷ pieces) = passed_if (is_parting (take piece.lines lines) piece pieces) piece ∷ unparted (drop piece.lines lines) pieces

-- the last of these pieces, or what stands before them, is an empty line: what comes behind decides of it
abbrev pub waits : Bool → List (List ℕ) → List PieceParts → Bool
waits before lines [] = before
waits before lines (piece ∷ pieces) = waits (is_blank (take piece.lines lines) piece) (drop piece.lines lines) pieces
