use Rattle.ci_formats.specs.Xml.{held}
use Rattle.finding_laws.proofs.CheckstyleLemmas.TextBack.{text_back}
use Rattle.finding_laws.proofs.checkstyle.text_is_read.Goals as goal

pub returns-clause-escaped : goal.returns-clause-escaped
returns-clause-escaped c = text_back c.args._text.now

pub returns-clause-shown : goal.returns-clause-shown
returns-clause-shown c = text_back (held c.args._text.now)
