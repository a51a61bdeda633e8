use Rattle.std.proofs.Common.{sym, ◌∙◌}
use Rattle.oxc_windows.proofs.BackLemmas.{cut_inside}
use Rattle.oxc_windows.proofs.seed.seeded.Goals as goal

pub overflow_sub-start : goal.overflow_sub-start
overflow_sub-start g c = (cut_inside _ _ (g.met.S.BreakSource.valid c.args.source.now).ordered (sym c.inside.ensures.value ∙ c.if-inside.true)).1

pub seeded_at-requires-clause-cut : goal.seeded_at-requires-clause-cut
seeded_at-requires-clause-cut g c = (cut_inside _ _ (g.met.S.BreakSource.valid c.args.source.now).ordered (sym c.inside.ensures.value ∙ c.if-inside.true)).0
