use Rattle.oxc_protocol.proofs.RendersLemmas.{some_err, some_ok}
use Rattle.oxc_protocol.proofs.reporter.DiagnosticReporter.render_errors.Goals as goal

pub returns-clause-all : goal.returns-clause-all
returns-clause-all g c = some_ok _ _ _ c.render_errors_into.ensures.all

pub returns-clause-front : goal.returns-clause-front
returns-clause-front g c = some_err _ _ _ c.render_errors_into.ensures.front
