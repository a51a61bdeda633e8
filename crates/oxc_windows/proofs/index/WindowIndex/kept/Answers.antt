use Rattle.std.proofs.Common.{sym, subst}
use Rattle.oxc_windows.specs.Kept.{AreKept}
use Rattle.oxc_windows.proofs.KeptLemmas.{kept_is}
use Rattle.oxc_windows.proofs.index.WindowIndex.kept.Goals as goal

pub returns-clause-true_rows : goal.returns-clause-true_rows
returns-clause-true_rows c = λ len breaks valid is.
    let index = c.args.self.now in
    subst (AreKept len breaks index.before index.first) (sym c.deref.ensures.value)
    (kept_is len breaks index.before index.len index.rows index.first valid is)
