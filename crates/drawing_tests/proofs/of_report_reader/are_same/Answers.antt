use Rattle.std.proofs.Common.{arith, ◌≡◌}
use Rattle.std.proofs.lemmas.Grind.{common_steps}
use Rattle.report_reader.specs.contracts.seen.SeenPartialEq.TheImpl.{ghosts as seen_test}
use Rattle.report_reader.proofs.SeenSame.{seen_same}
use Rattle.drawing_tests.proofs.of_report_reader.are_same.Goals as goal

pub returns : goal.returns
returns c =
    let value : c.eq.result ≡ seen_test.eq c.args.one.now c.args.other.now = grind (arith, common_steps) in
    rw value (seen_same c.args.one.now c.args.other.now)
