-- Where the input ends, or a value doesn't close.
use Rattle.std.proofs.Common.{sym, ◌∙◌, None, Some}
use Rattle.json_forms.proofs.CutLemmas.{finished}
use Rattle.json_forms.proofs.cut.cut_input.Goals as goal
use Rattle.json_forms.proofs.cut.cut_input.Goals.{in-Ends, in-Open}

pub returns-clause-pieces : goal.returns-clause-pieces
returns-clause-pieces c = elim c.match-next_piece.branch [
  | in-Ends w ↦ finished c.args.bytes.now c.loop-start.at c.loop-start.pieces.items c.match-next_piece.unclosed None w.unclosed-is c.loop-start.invariant.ahead (sym c.next_piece.ensures.value ∙ w.in-Ends.is)
  | in-Open w ↦ finished c.args.bytes.now c.loop-start.at c.loop-start.pieces.items c.match-next_piece.unclosed (Some w.in-Open.start) w.unclosed-is c.loop-start.invariant.ahead (sym c.next_piece.ensures.value ∙ w.in-Open.is)
]
