-- One entry more, before those that are there.
use Rattle.std.proofs.Common.{string_bytes, ◌≡◌, ◌≤◌, ◌+◌, ◌-◌, ◌∷◌, drop, length, subst, sym, ap, ◌∙◌, arith}
use Rattle.std.proofs.lemmas.List.{drop_more}
use Rattle.found_reports.specs.Listed.{ArePlaces}
use Rattle.found_reports.proofs.ListedLemmas.{places_before}
use Rattle.found_reports.proofs.sources.places_of.Goals as goal

pub loop-at-preserved : goal.loop-at-preserved
loop-at-preserved c =
    let entries = c.args.entries.now in
    let at = c.loop-at.at - 1 in
    let entry = c.index-entries-at.result in
    let next : at + 1 ≡ c.loop-at.at = omega (arith, c.loop-at-test.true) in
    let within : at + 1 ≤ length entries = omega (arith, next, c.loop-at.invariant.0) in
    let before : ArePlaces (at + 1) (drop (at + 1) entries) c.loop-at.places = subst (λ n. ArePlaces n (drop n entries) c.loop-at.places) (sym next) c.loop-at.invariant.1 in
    let here : drop at entries ≡ entry ∷ drop (at + 1) entries =
    drop_more entries at entry (omega (arith, within)) ∙ ap (λ it. it ∷ drop (at + 1) entries) (sym c.index-entries-at.is) in (
      omega (arith, within),
      subst (λ those. ArePlaces at those c.insert.new.self) (sym here)
          (places_before at entry (drop (at + 1) entries) c.loop-at.places c.insert.new.self c.in_ok-name.name before c.in_ok-insert.ensures.updates
          (c.in_ok-name.ensures.ok ∙ c.as_str.ensures.value ∙ sym (ap (λ it. string_bytes it.name) c.index-entries-at.is))),
    )
