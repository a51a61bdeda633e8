-- The map has the names of the entries.
use Rattle.std.proofs.Common.{ap, ◌∙◌}
use Rattle.found_reports.specs.Listed.{listed}
use Rattle.found_reports.proofs.ListedLemmas.{listed_there}
use Rattle.indexed_sources.proofs.sources.IndexedSourcesSourceList.is_listed.Goals as goal

pub returns : goal.returns
returns c =
    c.contains_key.ensures ∙ listed_there c.self.inside.entries.items c.self.inside.places c.args.name.now c.self.invariant.places_are
    ∙ ap (λ it. listed it.entries.items c.args.name.now) c.self.view_is
