use Rattle.std.proofs.Common.{length, subst}
use Rattle.oxc_windows.specs.Breaks.{breaks_of}
use Rattle.oxc_windows.specs.Kept.{AreKept}
use Rattle.oxc_windows.specs.Valid.{breaks_valid}
use Rattle.oxc_windows.proofs.scanner.SpanScanner.kept.Goals as goal

pub returns-clause-true_rows : goal.returns-clause-true_rows
returns-clause-true_rows c =
    let input = c.self.inside.source.bytes.now in
    subst (λ scan. AreKept (length scan.input) (breaks_of scan.input) scan.before scan.first c.kept.result.now) c.self.view_is
    (c.kept.ensures.true_rows (length input) (breaks_of input) (breaks_valid input) c.self.invariant.index)
