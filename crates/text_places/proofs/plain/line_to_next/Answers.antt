use Rattle.text_places.specs.Pages.{text_of}
use Rattle.text_places.proofs.PagesLemmas.{text_utf8}
use Rattle.text_places.proofs.plain.line_to_next.Goals as goal

pub returns-in-Some : goal.returns-in-Some
returns-in-Some c = c.line_up_to.ensures (text_of c.args.pages.now) (text_utf8 c.args.pages.now) c.page_of-page.ensures c.page_of-next.ensures
