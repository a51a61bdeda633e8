-- The map tells where the first entry of a name stands.
use Rattle.std.proofs.Common.{ap, sym, slice_get, ◌∙◌}
use Rattle.found_reports.specs.Listed.{first_in}
use Rattle.found_reports.proofs.ListedLemmas.{first_at, first_none}
use Rattle.found_reports.proofs.sources.ListedSources.first.Goals as goal

pub returns-in-Some : goal.returns-in-Some
returns-in-Some c =
    c.entry_at.ensures ∙ ap (λ xs. slice_get xs c.in-Some.place.now) c.deref.ensures.value
    ∙ first_at c.self.inside.entries.items c.self.inside.places c.args.name.now c.in-Some.place.now c.self.invariant (sym c.in-Some.ensures.value)
    ∙ ap (λ it. first_in it.entries.items c.args.name.now) c.self.view_is

pub returns-in-None : goal.returns-in-None
returns-in-None c =
    first_none c.self.inside.entries.items c.self.inside.places c.args.name.now c.self.invariant (sym c.in-None.ensures.value)
    ∙ ap (λ it. first_in it.entries.items c.args.name.now) c.self.view_is
