use Rattle.lsp_server.proofs.MarkLemmas.{keeps_boundaries, keeps_marks, moves_with_text}
use Rattle.lsp_server.proofs.marks.mark_laws.Goals as goal

pub returns-clause-text : goal.returns-clause-text
returns-clause-text c = moves_with_text

pub returns-clause-marks : goal.returns-clause-marks
returns-clause-marks c = keeps_marks

pub returns-clause-boundaries : goal.returns-clause-boundaries
returns-clause-boundaries c = keeps_boundaries
