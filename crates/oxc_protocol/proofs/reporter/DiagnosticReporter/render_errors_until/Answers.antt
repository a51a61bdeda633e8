use Rattle.oxc_protocol.proofs.RendersLemmas.{some_err, some_ok}
use Rattle.oxc_protocol.proofs.reporter.DiagnosticReporter.render_errors_until.Goals as goal

pub returns-clause-until : goal.returns-clause-until
returns-clause-until g c = some_ok _ _ _ c.render_errors_until_into.ensures.until

pub returns-clause-front : goal.returns-clause-front
returns-clause-front g c = some_err _ _ _ c.render_errors_until_into.ensures.front
