use Rattle.std.proofs.Common.{◌-◌, ◌∙◌, ap, length}
use Rattle.text_places.specs.Pages.{units_in, bytes_in}
use Rattle.text_places.proofs.ListedLemmas.{reach_all}
use Rattle.text_places.proofs.seek.place_by.Goals as goal

pub returns-clause-last : goal.returns-clause-last
returns-clause-last g c =
    let page = c.page_of_units-page.result.now in
    let left = c.args.most - units_in c.args.encoding page.before in
    let is = rw (c.looked_at-text.ensures.text, c.units.ensures) at c.reach.ensures.last in
    c.page_of_units-page.ensures.found c.reach.result.place
    (reach_all c.args.encoding (bytes_in page) left (length c.as_str.result.now) c.reach.result.place (ap length (c.as_str.ensures.value) ∙ ap length c.looked_at-text.ensures.text) is)
