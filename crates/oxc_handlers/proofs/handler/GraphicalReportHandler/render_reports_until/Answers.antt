use Rattle.std.proofs.Common.{map}
use Rattle.oxc_handlers.specs.Keeping.{KeepsAtError}
use Rattle.oxc_handlers.proofs.KeepsLemmas.{if_err, still_at_error}
use Rattle.oxc_handlers.proofs.handler.GraphicalReportHandler.render_reports_until.Goals as goal

pub returns-in_err-codes-clause-left : goal.returns-in_err-codes-clause-left
returns-in_err-codes-clause-left g c =
    let list = map (λ b. (goal.Diagnostic-dyn g (b.vtable, b.value)).parts b.value) c.args.diagnostics.now in
    if_err (λ error. KeepsAtError g.K.Keep.keeps c.args.self.now c.args.keep.now list error c.args.keep.now)
    (λ error. still_at_error g.K.Keep.keeps c.args.self.now list c.args.keep.now error) c.from_residual.result

pub returns-in-Err-clause-left : goal.returns-in-Err-clause-left
returns-in-Err-clause-left g c =
    still_at_error g.K.Keep.keeps c.args.self.now (map (λ b. (goal.Diagnostic-dyn g (b.vtable, b.value)).parts b.value) c.args.diagnostics.now) c.args.keep.now c.in-Err.error
