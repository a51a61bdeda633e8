use denote.Shadow.{shadow}
use denote.Text.{Utf8}
use Rattle.std.proofs.Common.{◌≡◌, ◌+◌, ◌*◌, ◌≤◌, ◌++◌, length, map}
use Rattle.textwrap.specs.Cuts.{cuts}
use Rattle.textwrap.specs.Pieces.{extent, piece_view, with_gap}
use Rattle.textwrap.proofs.pieces.push_word.Given as goal

-- the pieces of what is left come next
abbrev pub invariant-loop-rest : goal.invariant-loop-rest
invariant-loop-rest l = record {
  text : shadow (Utf8 l.rest);
  ahead : map piece_view l.list.items ++ with_gap l.gap (cuts l.room l.rest) ≡ map piece_view l.initial.list.items ++ with_gap l.gap (cuts l.room l.initial.rest);
  room : extent (map piece_view l.list.items) + 2 * length l.rest ≤ extent (map piece_view l.initial.list.items) + 2 * length l.initial.rest;
}

abbrev pub decreases-loop-rest : goal.decreases-loop-rest
decreases-loop-rest l = length l.rest
