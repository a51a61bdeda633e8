use Rattle.std.proofs.Common.{◌∙◌, ap}
use Rattle.girzohal_run.proofs.logs.no_json.Goals as goal

pub returns-in-Ok : goal.returns-in-Ok
returns-in-Ok c = record { row = c.args.line; column = c.args.column; is = ap (λ bytes. bytes.items) c.into_bytes.ensures.value ∙ c.in-Ok.ensures.ok }
