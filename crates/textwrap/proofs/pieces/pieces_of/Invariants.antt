use denote.Shadow.{shadow}
use denote.Text.{Utf8}
use Rattle.std.proofs.Common.{◌≡◌, ◌+◌, ◌*◌, ◌≤◌, ◌++◌, length, map}
use Rattle.std.specs.List.{flat_map}
use Rattle.textwrap.specs.Words.{words}
use Rattle.textwrap.specs.Pieces.{extent, piece_view, word_pieces}
use Rattle.textwrap.proofs.pieces.pieces_of.Given as goal

-- the pieces of what is left come next
abbrev pub invariant-loop-rest : goal.invariant-loop-rest
invariant-loop-rest l = record {
  text : shadow (Utf8 l.rest);
  ahead : map piece_view l.list.items ++ flat_map (word_pieces l.room) (words l.rest) ≡ flat_map (word_pieces l.room) (words l.part);
  room : extent (map piece_view l.list.items) + 2 * length l.rest ≤ 2 * length l.part;
}

abbrev pub decreases-loop-rest : goal.decreases-loop-rest
decreases-loop-rest l = length l.rest
