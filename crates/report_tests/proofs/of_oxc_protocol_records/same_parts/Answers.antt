use Rattle.std.proofs.Common.{arith, ◌≡◌}
use Rattle.std.proofs.lemmas.Grind.{common_steps}
use Rattle.oxc_protocol.specs.OxcEq.{oxc_eq, oxc_decides}
use Rattle.oxc_protocol.specs.Views.{inner_parts}
use Rattle.report_tests.proofs.of_oxc_protocol_records.same_parts.Goals as goal

pub returns : goal.returns
returns c =
    let value : c.eq.result ≡ oxc_eq (inner_parts c.args.a.now) (inner_parts c.args.b.now) = grind (arith, common_steps) in
    rw value (oxc_decides _ _)
