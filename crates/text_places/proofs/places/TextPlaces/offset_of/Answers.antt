use Rattle.std.proofs.Common.{ap, subst, sym, ◌≡◌, ◌∙◌}
use Rattle.text_places.specs.Pages.{text_of}
use Rattle.text_places.specs.Places.{IsOffsetOf}
use Rattle.text_places.proofs.PagesLemmas.{text_utf8}
use Rattle.text_places.proofs.places.TextPlaces.offset_of.Goals as goal

pub returns-in-Some : goal.returns-in-Some
returns-in-Some c =
    let pages = c.as_slice.result.now in
    let same : text_of pages ≡ c.args.self.now = ap text_of c.as_slice.ensures.value ∙ c.self.view_is in
    subst (λ r. IsOffsetOf c.args.encoding c.args.self.now c.args.place r) (sym c.as_size.ensures)
    (subst (λ t. IsOffsetOf c.args.encoding t c.args.place c.offset_in_plain.result) same (c.offset_in_plain.ensures c.args.encoding (text_of pages) (text_utf8 pages) c.in-Some.ensures))
