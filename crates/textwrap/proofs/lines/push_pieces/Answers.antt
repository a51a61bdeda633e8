use Rattle.std.proofs.Common.{◌≡◌, List, ◌∷◌, map, ap, arith}
use Rattle.textwrap.specs.declared.pieces.Piece.{Piece}
use Rattle.textwrap.specs.Pieces.{extent, piece_view}
use Rattle.textwrap.proofs.LayoutLemmas.{extent_cons}
use Rattle.textwrap.proofs.lines.push_pieces.Goals as goal

pub push_more-requires : goal.push_more-requires
push_more-requires c =
    let all : c.args.pieces.now ≡ c.in-Some.piece.now ∷ c.in-Some.more.now = c.in-Some.ensures.cases.0 in
    omega (arith, c.requires, ap (λ (ps : List Piece). extent (map piece_view ps)) all, extent_cons (piece_view c.in-Some.piece.now) (map piece_view c.in-Some.more.now))
