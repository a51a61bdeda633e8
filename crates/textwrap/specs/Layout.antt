-- Pieces put down one by one.
use Rattle.std.specs.Prelude.{nat_le, Bool, if◌then◌else◌, ℕ, ◌+◌, List, [], ◌∷◌, ◌++◌, encode_utf8}
use Rattle.textwrap.specs.declared.lines.Line.{Line}
use Rattle.textwrap.specs.Pieces.{PieceView}
use Rattle.textwrap.specs.Filled.{spaces}

-- whether a piece still belongs to a line
abbrev pub joins : Line → PieceView → Bool
joins line p = nat_le (line.used + line.gap + p.width) line.room

-- what a piece adds to the text: its gap and itself, or a break and an indent before it
unfoldable pub appended : List ℕ → Line → PieceView → List ℕ
appended indent line p =
    if joins line p then spaces line.gap ++ p.text
    else encode_utf8 0x0A ++ indent ++ p.text

-- the line behind a piece
unfoldable pub line_behind : ℕ → Line → PieceView → Line
line_behind later line p =
    if joins line p then record { room = line.room; used = line.used + line.gap + p.width; gap = p.gap }
    else record { room = later; used = p.width; gap = p.gap }

-- what pieces add to the text
unfoldable pub continued : List ℕ → ℕ → Line → List PieceView → List ℕ
continued indent later line [] = []
continued indent later line (p ∷ more) = appended indent line p ++ continued indent later (line_behind later line p) more

-- pieces behind an indent
unfoldable pub laid_out : List ℕ → ℕ → ℕ → List PieceView → List ℕ
laid_out indent first later [] = []
laid_out indent first later (p ∷ more) = p.text ++ continued indent later (record { room = first; used = p.width; gap = p.gap }) more
