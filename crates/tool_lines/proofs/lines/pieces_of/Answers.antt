use Rattle.std.proofs.Common.{None, [], ◌∷◌, map, arith, subst, append-nil}
use Rattle.std.proofs.lemmas.Bool.Decides.{nat_tests}
use Rattle.std.specs.Option.{option_copied}
use Rattle.line_shapes.specs.Shape.{shape_parts}
use Rattle.tool_lines.specs.Lines.{ArePieces, piece_parts}
use Rattle.tool_lines.proofs.LinesLemmas.{dropped_map, mapped_none, mapped_some, pieces_step, pushed_map}
use Rattle.tool_lines.proofs.lines.pieces_of.Goals as goal

pub loop-rest-preserved : goal.loop-rest-preserved
loop-rest-preserved c = λ more are.
    subst (λ ps. ArePieces (map shape_parts c.args.shapes.now) None (map (λ line. line.now) c.args.lines.now) ps)
    (pushed_map piece_parts c.loop-rest.pieces.items c.next_piece-piece.result c.push.new.self.items more c.in_ok-push.ensures.items)
    (c.loop-rest.invariant (piece_parts c.next_piece-piece.result ∷ more)
    (pieces_step (map shape_parts c.args.shapes.now) (option_copied c.loop-rest.name) (option_copied c.next_name-name.result) (map (λ line. line.now) c.loop-rest.rest.now) (map (λ line. line.now) c.after-rest.result.now)
    (piece_parts c.next_piece-piece.result) more (mapped_some (λ line. line.now) c.loop-rest.rest.now (grind (arith, nat_tests))) c.next_piece-piece.ensures.piece c.next_name-name.ensures (dropped_map (λ line. line.now) c.next_piece-piece.result.lines c.loop-rest.rest.now c.after-rest.result.now c.after-rest.ensures.lines) are))

pub returns : goal.returns
returns c =
    subst (λ ps. ArePieces (map shape_parts c.args.shapes.now) None (map (λ line. line.now) c.args.lines.now) ps) (append-nil (map piece_parts c.loop-rest.pieces.items))
    (c.loop-rest.invariant [] (mapped_none (λ line. line.now) c.loop-rest.rest.now (grind (arith, nat_tests))))
