use Rattle.std.proofs.Common.{arith, ◌≡◌}
use Rattle.std.proofs.lemmas.Grind.{common_steps}
use Rattle.oxc_protocol.specs.OxcEq.{oxc_eq, oxc_decides}
use Rattle.oxc_protocol.proofs.diagnostic.OxcDiagnosticPartialEq.eq.Goals as goal

pub returns-clause-same : goal.returns-clause-same
returns-clause-same c =
    let value : c.eq.result ≡ oxc_eq c.args.self.now c.args.other.now = grind (arith, common_steps) in
    rw value (oxc_decides _ _)
