use Rattle.text_places.specs.Pages.{text_of}
use Rattle.text_places.proofs.PagesLemmas.{text_utf8}
use Rattle.text_places.proofs.plain.line_from.Goals as goal

pub returns-in-Some : goal.returns-in-Some
returns-in-Some c = c.line_listed.ensures (text_of c.args.pages.now) (text_utf8 c.args.pages.now) c.page_of-page.ensures
