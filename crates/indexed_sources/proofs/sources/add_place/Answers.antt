-- One entry more, behind those that are there.
use Rattle.std.proofs.Common.{ap, sym, ◌∙◌}
use Rattle.std.specs.BTreeMap.{get_by_text}
use Rattle.std.specs.Option.{is_some}
use Rattle.found_reports.proofs.ListedLemmas.{places_behind, places_stay}
use Rattle.indexed_sources.proofs.sources.add_place.Goals as goal

pub returns-then-contains_key-clause-added : goal.returns-then-contains_key-clause-added
returns-then-contains_key-clause-added c =
    places_stay c.args.entries.now c.args.source.now c.args.places.now c.requires
    (ap (λ name. is_some (get_by_text c.args.places.now name)) (sym c.as_str.ensures.value) ∙ sym c.contains_key.ensures ∙ c.if-contains_key.true)

pub returns-clause-added : goal.returns-clause-added
returns-clause-added c =
    places_behind c.args.entries.now c.args.source.now c.args.places.now c.insert.new.self c.in_ok-name.name c.requires
    (ap (λ name. is_some (get_by_text c.args.places.now name)) (sym c.as_str.ensures.value) ∙ sym c.contains_key.ensures ∙ c.if-contains_key.false)
    c.in_ok-insert.ensures.updates (c.in_ok-name.ensures.ok ∙ c.as_str-2.ensures.value)
