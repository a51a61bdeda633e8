-- The lines that the pieces of a part are laid out in.
use Rattle.std.specs.Prelude.{◌≡◌, nat_le, if◌then◌else◌, ℕ, ◌+◌, ◌-◌, ◌<◌, ◌≤◌, List, [], ◌∷◌, length, take, drop, sum_by}
use Rattle.textwrap.specs.Pieces.{PieceView}

-- the cells of the first n pieces in one line: those of the pieces, and of the gaps between them
unfoldable pub front_width : List PieceView → ℕ → ℕ
front_width pieces n = sum_by (λ p. p.width) (take n pieces) + sum_by (λ p. p.gap) (take (n - 1) pieces)

-- the first n pieces are a line: one piece, or more that fit the room, and with the next piece they would not fit
pub record IsLine (room : ℕ) (pieces : List PieceView) (n : ℕ) : Type 0 where
  pub some : 1 ≤ n
  pub within : n ≤ length pieces
  pub fits : 1 < n → front_width pieces n ≤ room
  pub full : n < length pieces → room < front_width pieces (n + 1)

-- the numbers of pieces in the lines of a part, whose first line has a room of its own
abbrev pub AreLines : ℕ → ℕ → List PieceView → List ℕ → Type 0
AreLines first later pieces [] = length pieces ≡ 0
AreLines first later pieces (n ∷ counts) = IsLine first pieces n × AreLines later later (drop n pieces) counts

-- first fit, computed: a line so far of `count` pieces that take `used` cells, the gap behind it, and the pieces to come
unfoldable pub joined : ℕ → ℕ → ℕ → ℕ → ℕ → List PieceView → List ℕ
joined room later used gap count [] = count ∷ []
joined room later used gap count (p ∷ more) =
    if nat_le (used + gap + p.width) room then joined room later (used + gap + p.width) p.gap (count + 1) more
    else count ∷ joined later later p.width p.gap 1 more

-- the one division into lines, computed
unfoldable pub first_fit : ℕ → ℕ → List PieceView → List ℕ
first_fit first later [] = []
first_fit first later (p ∷ more) = joined first later p.width p.gap 1 more
