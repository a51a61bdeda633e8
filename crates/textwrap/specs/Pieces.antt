-- The pieces that a part of a text is laid out in.
use Rattle.std.specs.Prelude.{ℕ, ◌+◌, List, [], ◌∷◌, sum_by}
use Rattle.std.specs.List.{flat_map}
use Rattle.textwrap.specs.declared.pieces.Piece.{Piece}
use Rattle.textwrap.specs.Width.{display_width}
use Rattle.textwrap.specs.Cuts.{cuts}
use Rattle.textwrap.specs.Words.{Word, words}

-- a piece: its text, the cells that it takes by itself, and the number of spaces behind it
pub record PieceView : Type 0 where
  pub text : List ℕ
  pub width : ℕ
  pub gap : ℕ

abbrev pub piece_view : Piece → PieceView
piece_view p = record { text = p.text.now; width = p.width; gap = p.gap }

abbrev pub piece : List ℕ → ℕ → PieceView
piece text gap = record { text = text; width = display_width text; gap = gap }

-- texts as pieces, with a gap behind the last alone
abbrev pub with_gap : ℕ → List (List ℕ) → List PieceView
with_gap gap [] = []
with_gap gap (text ∷ []) = piece text gap ∷ []
with_gap gap (text ∷ next ∷ more) = piece text 0 ∷ with_gap gap (next ∷ more)

-- the pieces of a word, which is cut where it is wider than the room
unfoldable pub word_pieces : ℕ → Word → List PieceView
word_pieces room word = with_gap word.gap (cuts room word.text)

-- the pieces of a part
unfoldable pub pieces : ℕ → List ℕ → List PieceView
pieces room part = flat_map (word_pieces room) (words part)

-- all the cells and spaces of some pieces
unfoldable pub extent : List PieceView → ℕ
extent pieces = sum_by (λ p. p.width + p.gap) pieces
