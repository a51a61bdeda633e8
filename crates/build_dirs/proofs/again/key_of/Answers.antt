-- One piece after another.
use Rattle.std.proofs.Common.{sym, ◌∙◌, arith}
use Rattle.build_dirs.proofs.AgainLemmas.{key_none, piece_more}
use Rattle.build_dirs.proofs.again.key_of.Goals as goal

pub loop-piece-init : goal.loop-piece-init
loop-piece-init c = c.new-key.ensures.bytes ∙ sym key_none

pub loop-piece-preserved : goal.loop-piece-preserved
loop-piece-preserved c = piece_more c.args.pieces.now c.loop-piece.piece-index _ _ _ _ (omega arith) c.in_ok-push_line.ensures c.in_ok-push_lines.ensures c.loop-piece.invariant
