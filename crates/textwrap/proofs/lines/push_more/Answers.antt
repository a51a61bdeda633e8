use Rattle.std.proofs.Common.{[], string_bytes, ◌∙◌, sym, arith, get_or, append-nil}
use Rattle.textwrap.specs.declared.pieces.Piece.{Piece}
use Rattle.textwrap.specs.Pieces.{piece_view}
use Rattle.textwrap.proofs.LayoutLemmas.{continued_more, continued_none, extent_more, behind_small}
use Rattle.textwrap.proofs.lines.push_more.Goals as goal

abbrev none : Piece
none = record { text = record { ref_ptr = (0, 0); now = [] }; width = 0; gap = 0 }

pub push_piece-requires : goal.push_piece-requires
push_piece-requires c = omega (arith, c.loop-piece.invariant.room, extent_more c.args.pieces.now c.loop-piece.piece-index none c.loop-piece-test.true)

pub loop-piece-preserved : goal.loop-piece-preserved
loop-piece-preserved c =
    let p : Piece = get_or c.args.pieces.now c.loop-piece.piece-index none in
    record {
      ahead =
          rw c.in_ok-line.ensures.text
          (continued_more (string_bytes c.loop-piece.out) c.args.indent.now c.args.later c.loop-piece.line c.in_ok-line.line c.args.pieces.now c.loop-piece.piece-index none c.loop-piece-test.true c.in_ok-line.ensures.line
          ∙ c.loop-piece.invariant.ahead);
      room =
          rw c.in_ok-line.ensures.line
          (omega (arith, c.loop-piece.invariant.room, extent_more c.args.pieces.now c.loop-piece.piece-index none c.loop-piece-test.true, behind_small c.args.later c.loop-piece.line (piece_view p)));
    }

pub returns : goal.returns
returns c =
    sym (append-nil (string_bytes c.loop-piece.out))
    ∙ sym (continued_none (string_bytes c.loop-piece.out) c.args.indent.now c.args.later c.loop-piece.line c.args.pieces.now c.loop-piece.piece-index c.loop-piece-test.false)
    ∙ c.loop-piece.invariant.ahead
