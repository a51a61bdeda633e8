-- What each line of a part is in a block.
use Rattle.std.specs.Prelude.{ℕ, ◌+◌, ◌&&◌, min, max, nat_le, nat_lt, if◌then◌else◌, Bool, false, List, [], ◌∷◌, Option, Some, None}
use Rattle.excerpt_lines.specs.declared.gutter.Sign.{Sign}
use Rattle.excerpt_lines.specs.declared.gutter.Sign.TheVariants.{Unsigned, Added}
use Rattle.excerpt_lines.specs.declared.kinds.LineKind.{LineKind}
use Rattle.excerpt_lines.specs.declared.kinds.LineKind.TheVariants.{Empty as EmptyLine, Place as PlaceLine, Note as NoteLine, Row as RowLine, Marks as MarksLine, Space, Inserted, Loose as LooseLine, Frame as FrameLine, Plain}
use Rattle.excerpt_blocks.specs.declared.blocks.Role.{Role}
use Rattle.excerpt_blocks.specs.declared.blocks.Role.TheVariants.{Row, Marks, Gap, Frame, Other}
use Rattle.excerpts.specs.declared.cuts.Outline.{Outline}
use Rattle.excerpts.specs.declared.cuts.PartKind.{PartKind}
use Rattle.excerpts.specs.declared.cuts.PartKind.TheVariants.{Empty, Place, Note, GoesOn, Frames, Source, Loose, Suggestion, Kept}
use Rattle.excerpt_blocks.specs.declared.labels.Spot.{Spot}

abbrev pub head_with : Option ℕ → Sign → ℕ → Role
head_with number sign text = Row (record { number = number; sign = sign; text = text; margin = text })

abbrev pub after_bar : Outline → ℕ → ℕ
after_bar line bar = min (bar + 2) line.length

-- where the margin of a drawing ends: one place after the last beginning of a link, or 0
abbrev pub link_end : ℕ → ℕ → Option ℕ → ℕ
link_end margin length None = margin
link_end margin length (Some link) = if nat_le margin link && nat_lt link length then link + 1 else margin

abbrev pub margin_from : ℕ → List Outline → ℕ
margin_from margin [] = margin
margin_from margin (line ∷ lines) = margin_from (link_end margin line.length line.link) lines

abbrev pub margin_of : List Outline → ℕ
margin_of lines = margin_from 0 lines

abbrev pub row_head : ℕ → Option ℕ → Sign → ℕ → Role
row_head margin number sign text = Row (record { number = number; sign = sign; text = max text margin; margin = text })

abbrev pub source_by : ℕ → Outline → LineKind → Role
source_by margin line EmptyLine = Other
source_by margin line (PlaceLine p) = Other
source_by margin line (NoteLine n) = Other
source_by margin line (RowLine g) = row_head margin g.number g.sign (after_bar line g.bar)
source_by margin line (MarksLine g) = Marks (after_bar line g.bar)
source_by margin line (Space g) = Frame
source_by margin line (Inserted text) = Other
source_by margin line LooseLine = Other
source_by margin line FrameLine = Frame
source_by margin line Plain = Other

-- what a line is in a drawing of the source, of which the margin ends at a place
abbrev pub source_role : ℕ → Outline → Role
source_role margin line = source_by margin line line.kind

-- a row without a number and without a bar, or something else
abbrev pub signed_or : Outline → Option Sign → Role → Role
signed_or line (Some sign) role = head_with None sign (after_bar line line.indent)
signed_or line None role = role

abbrev pub suggested_by : Outline → LineKind → Role
suggested_by line EmptyLine = Other
suggested_by line (PlaceLine p) = Other
suggested_by line (NoteLine n) = signed_or line line.sign Other
suggested_by line (RowLine g) = head_with g.number g.sign (after_bar line g.bar)
suggested_by line (MarksLine g) = Marks (after_bar line g.bar)
suggested_by line (Space g) = Gap
suggested_by line (Inserted text) = head_with None Added text
suggested_by line LooseLine = signed_or line line.sign Other
suggested_by line FrameLine = signed_or line line.sign (if line.dots then head_with None Unsigned line.indent else Frame)
suggested_by line Plain = signed_or line line.sign Other

-- what a line is in a suggestion; dots are a row without a number
abbrev pub suggested_role : Outline → Role
suggested_role line = suggested_by line line.kind

-- what a line of a part is; without a gutter, the first is the row that the finding is in
abbrev pub role_of : PartKind → Spot → ℕ → Bool → Outline → Role
role_of Empty spot margin first line = Other
role_of (Place p) spot margin first line = Other
role_of (Note n) spot margin first line = Other
role_of (GoesOn below) spot margin first line = Other
role_of Frames spot margin first line = Other
role_of Source spot margin first line = source_role margin line
role_of Loose spot margin first line = if first then head_with spot.line Unsigned 0 else Marks 0
role_of Suggestion spot margin first line = suggested_role line
role_of Kept spot margin first line = Other

abbrev pub roles_from : PartKind → Spot → ℕ → Bool → List Outline → List Role
roles_from kind spot margin first [] = []
roles_from kind spot margin first (line ∷ lines) = role_of kind spot margin first line ∷ roles_from kind spot margin false lines
