use Rattle.finding_laws.proofs.CheckstyleLemmas.Held.{kept}
use Rattle.finding_laws.proofs.checkstyle.held_text_is_kept.Goals as goal

pub returns : goal.returns
returns c = kept c.args._text.now c.utf8._text
