use Rattle.text_places.proofs.PagesLemmas.{tells_text, first_bytes_none, first_rows_none}
use Rattle.text_places.proofs.seek.first_page.Goals as goal

pub returns-clause-bytes : goal.returns-clause-bytes
returns-clause-bytes c = first_bytes_none c.args.pages.now c.index-pages-0.result c.requires c.index-pages-0.is

pub returns-clause-rows : goal.returns-clause-rows
returns-clause-rows c = first_rows_none c.args.pages.now c.index-pages-0.result c.requires c.index-pages-0.is

pub returns-clause-tells : goal.returns-clause-tells
returns-clause-tells c = tells_text c.args.pages.now 0 c.index-pages-0.result c.requires c.requires.some c.index-pages-0.is
