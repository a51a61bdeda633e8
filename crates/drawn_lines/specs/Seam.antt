-- Where pieces may be parted, whatever lines come behind them.
use Rattle.std.specs.Prelude.{◌≡◌, ⊤, ℕ, ◌+◌, ◌≤◌, IfSome, not, ◌&&◌, List, [], ◌∷◌, ◌++◌, length, take, drop, Option, Some, None, Bool, true, false}
use Rattle.std.specs.Option.{is_none}
use Rattle.tool_lines.specs.declared.lines.Sort.{Sort}
use Rattle.tool_lines.specs.declared.lines.Sort.TheVariants.{Kept, Heading, Below, Announced, Inline, Spaced}
use Rattle.line_shapes.specs.Shape.{ShapeParts}
use Rattle.tool_lines.specs.Lines.{ArePieces, FindingParts, PieceParts, begun, is_kept}
use Rattle.fed_lines.specs.Feed.{ends_at}
use Rattle.drawn_lines.specs.Parting.{waits}
use Rattle.drawn_lines.specs.declared.seam.Part.{Part}
use Rattle.drawn_lines.specs.declared.seam.Sought.{Sought}

abbrev pub says_aside : Option FindingParts → Bool
says_aside None = false
says_aside (Some finding) = finding.says.aside && is_none finding.says.code

-- a piece is no note of a finding before it
abbrev pub opens : PieceParts → Bool
opens piece = not (says_aside piece.begun.finding)

-- the first of these pieces is no note of a finding before it
abbrev pub all_open : List PieceParts → Bool
all_open [] = true
all_open (piece ∷ pieces) = opens piece

-- no line behind a piece of this sort stands below its heading
abbrev pub closes : Sort → Bool
closes Kept = true
closes Heading = false
closes Below = false
closes Announced = true
closes Inline = true
closes Spaced = true

-- the last of these pieces closes
abbrev pub ends_closed : Bool → List PieceParts → Bool
ends_closed closed [] = closed
ends_closed closed (piece ∷ pieces) = ends_closed (closes piece.begun.sort) pieces

-- what is kept has no finding
abbrev pub BarePieces : List PieceParts → Type 0
BarePieces [] = ⊤
BarePieces (p ∷ ps) = (is_kept p.begun.sort ≡ true → p.begun.finding ≡ None) × BarePieces ps

-- how many lines pieces have
abbrev pub span : List PieceParts → ℕ
span [] = 0
span (piece ∷ pieces) = piece.lines + span pieces

-- what begins at a line is no note of a finding before it, whatever line comes behind it
abbrev pub OpensAlways : List ShapeParts → List ℕ → Type 0
OpensAlways shapes line = (next : Option (List ℕ)) → says_aside (begun shapes line next).finding ≡ false

-- whatever comes behind these lines, the first so many of their pieces stay as they are, and what comes behind those belongs to none of them
pub record IsSeam (shapes : List ShapeParts) (lines : List (List ℕ)) (pieces : List PieceParts) (at : ℕ) : Type 0 where
  pub within : span (take at pieces) ≤ length lines
  pub stays : (more : List (List ℕ)) (ps : List PieceParts) → ArePieces shapes None (drop (span (take at pieces)) lines ++ more) ps
      → ArePieces shapes None (lines ++ more) (take at pieces ++ ps)
  pub open_behind : (more : List (List ℕ)) (ps : List PieceParts) → ArePieces shapes None (drop (span (take at pieces)) lines ++ more) ps → all_open ps ≡ true

-- so many of the pieces of these lines, and how many lines they have
pub record IsPart (shapes : List ShapeParts) (lines : List (List ℕ)) (pieces : List PieceParts) (part : Part) : Type 0 where
  pub seam : IsSeam shapes lines pieces part.pieces
  pub within : part.pieces ≤ length pieces
  pub lines_are : part.lines ≡ span (take part.pieces pieces)

-- the last piece before such a place is no empty line
abbrev pub IsFull : List (List ℕ) → List PieceParts → Part → Type 0
IsFull lines pieces part = waits false lines (take part.pieces pieces) ≡ false

-- ---- how such places are sought

-- two lines stand behind so many pieces, of which the last closes, and the next is no note
pub record IsGap (pieces : List PieceParts) (lines : ℕ) (part : Part) : Type 0 where
  pub room : span (take part.pieces pieces) + 2 ≤ lines
  pub closed : ends_closed true (take part.pieces pieces) ≡ true
  pub open_behind : all_open (drop part.pieces pieces) ≡ true
  pub within : part.pieces ≤ length pieces
  pub lines_are : part.lines ≡ span (take part.pieces pieces)

-- so many pieces are walked, of these lines
pub record IsSought (lines : List (List ℕ)) (pieces : List PieceParts) (count at : ℕ) (sought : Sought) : Type 0 where
  pub closed : sought.closed ≡ ends_closed true (take at pieces)
  pub blank : sought.blank ≡ waits false lines (take at pieces)
  pub part : IfSome sought.part (IsGap pieces count)
  pub full : IfSome sought.part (IsFull lines pieces)

-- a piece is this line alone, which is the end of the piece before it, and no note of it
pub record IsEnd (shapes : List ShapeParts) (before last : PieceParts) (line : List ℕ) : Type 0 where
  pub one : last.lines ≡ 1
  pub closed : closes before.begun.sort ≡ true
  pub ends : ends_at shapes before.begun.sort line ≡ true
  pub opens : OpensAlways shapes line

-- the same of the last of these pieces, and the last of these lines
pub record EndsKnown (shapes : List ShapeParts) (lines : List (List ℕ)) (pieces : List PieceParts) : Type 0 where
  pub front : List (List ℕ)
  pub line : List ℕ
  pub lines_are : lines ≡ front ++ line ∷ []
  pub fore : List PieceParts
  pub before : PieceParts
  pub last : PieceParts
  pub pieces_are : pieces ≡ fore ++ before ∷ last ∷ []
  pub end : IsEnd shapes before last line
