use Rattle.std.proofs.Common.{◌≡◌, ◌+◌, ◌<◌, ◌^◌, ◌++◌, string_bytes, drop, map}
use Rattle.textwrap.specs.Pieces.{extent, piece_view}
use Rattle.textwrap.specs.Layout.{continued}
use Rattle.textwrap.proofs.lines.push_more.Given as goal

-- the pieces that are left come next, and their cells can be counted
abbrev pub invariant-loop-piece : goal.invariant-loop-piece
invariant-loop-piece l = record {
  ahead : string_bytes l.out ++ continued l.indent l.later l.line (map piece_view (drop l.piece-index l.pieces)) ≡ string_bytes l.initial.out ++ continued l.indent l.later l.fn.first (map piece_view l.pieces);
  room : l.line.used + l.line.gap + extent (map piece_view (drop l.piece-index l.pieces)) < 2 ^ 64;
}
