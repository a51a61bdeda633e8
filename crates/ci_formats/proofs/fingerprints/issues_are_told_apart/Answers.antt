use Rattle.ci_formats.proofs.ApartLemmas.{told_apart}
use Rattle.ci_formats.proofs.fingerprints.issues_are_told_apart.Goals as goal

pub returns : goal.returns
returns c = told_apart
