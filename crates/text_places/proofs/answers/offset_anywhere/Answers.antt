use Rattle.std.proofs.Common.{arith, ap, sym, ◌∙◌}
use Rattle.text_places.specs.Pages.{text_of}
use Rattle.text_places.specs.declared.place.Place.{Place}
use Rattle.text_places.proofs.PagesLemmas.{text_utf8}
use Rattle.text_places.proofs.AnswersLemmas.{found_offset, missed_offset, last_boundary, same_place}
use Rattle.text_places.proofs.answers.offset_anywhere.Goals.{else-back-place-via-then-back-place+else-back-place-2, else-back-place-via-else-back-place}
use Rattle.text_places.proofs.answers.offset_anywhere.Goals as goal

pub returns-then-back-place-2 : goal.returns-then-back-place-2
returns-then-back-place-2 g c =
    let text = text_of c.args.pages.now in
    found_offset c.args.encoding text c.args.place c.found_by-found.result (text_utf8 c.args.pages.now) c.found_by-found.ensures.last
    (sym (c.place_in-back.ensures (last_boundary c.args.encoding text _ c.found_by-found.result c.found_by-found.ensures.last)) ∙ same_place c.place_in-back.result c.args.place c.if-back-place.true c.if-back-place-2.true)

pub returns-else-back-place : goal.returns-else-back-place
returns-else-back-place g c =
    let text = text_of c.args.pages.now in
    let here = c.place_in-back.ensures (last_boundary c.args.encoding text _ c.found_by-found.result c.found_by-found.ensures.last) in
    missed_offset c.args.encoding text c.args.place c.found_by-found.result (text_utf8 c.args.pages.now) c.found_by-found.ensures.last (λ same.
    let e = here ∙ same in
    elim c.else-back-place.branch [
      | else-back-place-via-then-back-place+else-back-place-2 w ↦ omega (arith, w.if-back-place-2, ap (λ (p : Place). p.unit) e)
      | else-back-place-via-else-back-place w ↦ omega (arith, w.if-back-place, ap (λ (p : Place). p.line) e)
    ])
