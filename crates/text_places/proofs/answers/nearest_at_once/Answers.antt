use Rattle.text_places.specs.Pages.{text_of}
use Rattle.text_places.proofs.PagesLemmas.{text_utf8}
use Rattle.text_places.proofs.PlaceLemmas.{nearest_boundary}
use Rattle.text_places.proofs.answers.nearest_at_once.Goals as goal

pub returns-in-Some-clause-nearest : goal.returns-in-Some-clause-nearest
returns-in-Some-clause-nearest c = c.nearest_in_plain.ensures c.args.encoding (text_of c.args.pages.now) (text_utf8 c.args.pages.now) c.in-Some.ensures

pub returns-in-Some-clause-boundary : goal.returns-in-Some-clause-boundary
returns-in-Some-clause-boundary c =
    nearest_boundary c.args.encoding (text_of c.args.pages.now) c.args.place c.nearest_in_plain.result
    (c.nearest_in_plain.ensures c.args.encoding (text_of c.args.pages.now) (text_utf8 c.args.pages.now) c.in-Some.ensures)
