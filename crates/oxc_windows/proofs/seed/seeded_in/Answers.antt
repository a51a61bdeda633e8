use Rattle.std.proofs.Common.{sym, ◌∙◌}
use Rattle.oxc_windows.proofs.BackLemmas.{cut_inside}
use Rattle.oxc_windows.proofs.seed.seeded_in.Goals as goal

pub overflow_sub-start : goal.overflow_sub-start
overflow_sub-start g c = (cut_inside _ _ (g.met.S.BreakSource.valid c.args.source.now).ordered (sym c.inside.ensures.value ∙ c.if-inside.true)).1

pub walked_back-requires-clause-outside : goal.walked_back-requires-clause-outside
walked_back-requires-clause-outside g c = (cut_inside _ _ (g.met.S.BreakSource.valid c.args.source.now).ordered (sym c.inside.ensures.value ∙ c.if-inside.true)).0.outside

pub walked_back-requires-clause-place : goal.walked_back-requires-clause-place
walked_back-requires-clause-place g c = c.requires.row ∙ (cut_inside _ _ (g.met.S.BreakSource.valid c.args.source.now).ordered (sym c.inside.ensures.value ∙ c.if-inside.true)).0.same_row
