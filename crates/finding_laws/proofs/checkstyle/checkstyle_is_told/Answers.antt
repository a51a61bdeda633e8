use Rattle.std.proofs.Common.{map}
use Rattle.ci_formats.specs.Finding.{finding_parts}
use Rattle.finding_laws.proofs.CheckstyleLemmas.Told.{told_alone}
use Rattle.finding_laws.proofs.checkstyle.checkstyle_is_told.Goals as goal

pub returns : goal.returns
returns c = told_alone c.args._forms.now (map finding_parts c.args._findings.now)
