use Rattle.std.proofs.Common.{map}
use Rattle.ci_formats.specs.Finding.{finding_parts}
use Rattle.finding_laws.proofs.CheckstyleLemmas.Document.{document_read}
use Rattle.finding_laws.proofs.CheckstyleLemmas.Utf8.{all_texts}
use Rattle.finding_laws.proofs.checkstyle.checkstyle_is_read.Goals as goal

pub returns : goal.returns
returns c = document_read (map finding_parts c.args._findings.now) (all_texts c.args._findings.now)
