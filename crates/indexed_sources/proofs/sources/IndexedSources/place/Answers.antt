-- The map tells where the first entry of a name is, which counts for it.
use Rattle.std.proofs.Common.{◌≡◌, Some, None, ap, sym, subst, ◌∙◌}
use Rattle.found_reports.specs.Listed.{held_in, place_from}
use Rattle.found_reports.specs.Held.{lacks}
use Rattle.found_reports.specs.declared.sources.Lack.TheVariants.{Missing}
use Rattle.indexed_sources.specs.Indexed.{CountsAt}
use Rattle.indexed_sources.proofs.IndexedLemmas.{counts_there, none_there}
use Rattle.indexed_sources.proofs.sources.IndexedSources.place.Goals as goal

pub returns-in-Some : goal.returns-in-Some
returns-in-Some c =
    let is = c.in-Some.ensures.value ∙ c.self.invariant.places_are c.args.name.now in
    record {
      place = is ∙ ap (λ it. place_from 0 it.entries.items c.args.name.now) c.self.view_is;
      counts = subst (λ it. CountsAt it.entries.items c.args.name.now c.in-Some.place.now) c.self.view_is (counts_there c.self.inside.entries.items c.args.name.now c.in-Some.place.now (sym is));
    }

pub returns-in-None : goal.returns-in-None
returns-in-None c =
    let is = c.in-None.ensures.value ∙ c.self.invariant.places_are c.args.name.now in
    record {
      place = is ∙ ap (λ it. place_from 0 it.entries.items c.args.name.now) c.self.view_is;
      counts = subst (λ it. held_in it.entries.items c.args.name.now ≡ lacks Missing) c.self.view_is (none_there c.self.inside.entries.items c.args.name.now (sym is));
    }
