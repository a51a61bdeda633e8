use Rattle.text_places.proofs.PagesLemmas.{tells_text}
use Rattle.text_places.proofs.plain.page_of.Goals as goal

pub returns : goal.returns
returns c = tells_text c.args.pages.now c.args.number c.index-pages-number.result c.requires.known c.requires.within c.index-pages-number.is
