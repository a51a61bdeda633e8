use Rattle.std.proofs.Common.{ap, min, ◌∙◌}
use Rattle.text_places.specs.Pages.{text_of}
use Rattle.text_places.proofs.PagesLemmas.{text_utf8}
use Rattle.text_places.proofs.AnswersLemmas.{nearest_found}
use Rattle.text_places.proofs.answers.nearest_anywhere.Goals as goal

pub returns-clause-nearest : goal.returns-clause-nearest
returns-clause-nearest g c =
    nearest_found c.args.encoding (text_of c.args.pages.now) c.args.place c.found_by.result c.min.result (text_utf8 c.args.pages.now) c.requires.within c.found_by.ensures.last
    (c.min.ensures ∙ ap (λ n. min c.found_by.result n) c.line_end-limit.ensures.value)
