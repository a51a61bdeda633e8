use Rattle.std.proofs.Common.{arith, sym, ◌∙◌}
use Rattle.oxc_windows.proofs.BackLemmas.{back_outside, begin_found, none_above, first_begins}
use Rattle.oxc_windows.proofs.seed.row_begin.Goals as goal

pub returns-then-top-eq0-clause-value : goal.returns-then-top-eq0-clause-value
returns-then-top-eq0-clause-value g c = first_begins _ _ _ c.if-top-eq0.true

pub last_break-requires-clause-outside : goal.last_break-requires-clause-outside
last_break-requires-clause-outside g c = back_outside _ _ _ _ _ c.requires.back

pub overflow_add-result : goal.overflow_add-result
overflow_add-result g c =
    let e = begin_found (g.S.BreakSource.size c.args.source.now) _ _ _ c.in-Some.found (g.met.S.BreakSource.valid c.args.source.now).ordered c.requires.back (sym c.last_break.ensures.value ∙ c.in-Some.is) in
    omega (arith, e.2, c.requires.within, g.met.S.BreakSource.short c.args.source.now)

pub overflow_cast-result : goal.overflow_cast-result
overflow_cast-result g c =
    let e = begin_found (g.S.BreakSource.size c.args.source.now) _ _ _ c.in-Some.found (g.met.S.BreakSource.valid c.args.source.now).ordered c.requires.back (sym c.last_break.ensures.value ∙ c.in-Some.is) in
    omega (arith, e.2, c.requires.within, g.met.S.BreakSource.short c.args.source.now)

pub returns-in-Some-clause-value : goal.returns-in-Some-clause-value
returns-in-Some-clause-value g c =
    let e = begin_found (g.S.BreakSource.size c.args.source.now) _ _ _ c.in-Some.found (g.met.S.BreakSource.valid c.args.source.now).ordered c.requires.back (sym c.last_break.ensures.value ∙ c.in-Some.is) in
    sym e.0

pub returns-in-Some-clause-low : goal.returns-in-Some-clause-low
returns-in-Some-clause-low g c =
    let e = begin_found (g.S.BreakSource.size c.args.source.now) _ _ _ c.in-Some.found (g.met.S.BreakSource.valid c.args.source.now).ordered c.requires.back (sym c.last_break.ensures.value ∙ c.in-Some.is) in
    omega (arith, e.2)

pub returns-in-None-clause-value : goal.returns-in-None-clause-value
returns-in-None-clause-value g c =
    first_begins _ _ _ (none_above _ _ _ (g.met.S.BreakSource.valid c.args.source.now).ordered c.requires.back (sym c.last_break.ensures.value ∙ c.in-None.is))
