-- All pieces are read.
use Rattle.line_reports.proofs.PieceLemmas.{read_ends}
use Rattle.line_reports.proofs.pieces.read_pieces.Goals as goal

pub returns-clause-read : goal.returns-clause-read
returns-clause-read c = read_ends _ _ _ c.loop-rest.invariant.read
