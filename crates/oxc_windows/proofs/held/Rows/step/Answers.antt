use Rattle.std.proofs.Common.{arith, sym, ◌∙◌}
use Rattle.oxc_windows.proofs.HeldLemmas.{found_end, held_after, held_outside, held_upto}
use Rattle.oxc_windows.proofs.MostLemmas.{found_near, found_most, none_most}
use Rattle.oxc_windows.proofs.StartsLemmas.{heads_long, noted}
use Rattle.oxc_windows.proofs.held.Rows.step.Goals as goal

pub first_break-requires-clause-outside : goal.first_break-requires-clause-outside
first_break-requires-clause-outside g c = held_outside _ _ _ _ _ _ (g.met.S.BreakSource.valid c.args.source.now).ordered c.requires.held.held

pub put-requires : goal.put-requires
put-requires g c =
    let e = found_end _ _ _ _ c.args.to _ _ c.in-Some.found (g.met.S.BreakSource.valid c.args.source.now) c.requires.held.held (sym c.first_break.ensures.value ∙ c.in-Some.is) in
    (omega (arith, e, g.met.S.BreakSource.short c.args.source.now), e.2)

pub returns-in_ok-put-in-Some-clause-held : goal.returns-in_ok-put-in-Some-clause-held
returns-in_ok-put-in-Some-clause-held g c =
    rw (c.put.ensures.top, c.in_ok-put-in-Some.ensures.starts, c.in_ok-put-in-Some.ensures.heads, c.in_ok-put-in-Some.ensures.known)
    (held_after _ _ _ _ c.args.to _ _ c.in-Some.found (g.met.S.BreakSource.valid c.args.source.now) c.requires.held (sym c.first_break.ensures.value ∙ c.in-Some.is))

pub returns-in_ok-put-in-Some-clause-ticks : goal.returns-in_ok-put-in-Some-clause-ticks
returns-in_ok-put-in-Some-clause-ticks g c =
    let e = found_end _ _ _ _ c.args.to _ _ c.in-Some.found (g.met.S.BreakSource.valid c.args.source.now) c.requires.held.held (sym c.first_break.ensures.value ∙ c.in-Some.is) in
    omega (arith, e, c.in-Some.ensures.ticks, c.in_ok-put-in-Some.ensures.known)

pub returns-in_ok-put-in-Some-clause-grows : goal.returns-in_ok-put-in-Some-clause-grows
returns-in_ok-put-in-Some-clause-grows g c =
    let e = found_end _ _ _ _ c.args.to _ _ c.in-Some.found (g.met.S.BreakSource.valid c.args.source.now) c.requires.held.held (sym c.first_break.ensures.value ∙ c.in-Some.is) in
    omega (arith, e, c.in_ok-put-in-Some.ensures.known)

pub returns-in-None-clause-held : goal.returns-in-None-clause-held
returns-in-None-clause-held g c =
    let less = c.requires.ordered in
    held_upto _ _ _ _ c.args.to _ _ (g.met.S.BreakSource.valid c.args.source.now) c.requires.held (sym c.first_break.ensures.value ∙ c.in-None.is) (omega (arith, less)) c.requires.within

pub returns-in_ok-put-in-Some-clause-further : goal.returns-in_ok-put-in-Some-clause-further
returns-in_ok-put-in-Some-clause-further g c =
    let e = found_end _ _ _ _ c.args.to _ _ c.in-Some.found (g.met.S.BreakSource.valid c.args.source.now) c.requires.held.held (sym c.first_break.ensures.value ∙ c.in-Some.is) in
    omega (arith, e, c.in_ok-put-in-Some.ensures.known)

pub returns-in_ok-put-in-Some-clause-near : goal.returns-in_ok-put-in-Some-clause-near
returns-in_ok-put-in-Some-clause-near g c =
    let e = found_near _ _ _ _ c.args.to _ _ c.in-Some.found (g.met.S.BreakSource.valid c.args.source.now).ordered c.requires.held.held (sym c.first_break.ensures.value ∙ c.in-Some.is) in
    omega (arith, e, c.in_ok-put-in-Some.ensures.known)

pub returns-in_ok-put-in-Some-clause-most : goal.returns-in_ok-put-in-Some-clause-most
returns-in_ok-put-in-Some-clause-most g c = λ w whole less.
    let long = heads_long _ _ _ _ (noted _ _ _ _ _ _ (g.met.S.BreakSource.valid c.args.source.now).ordered c.requires.held) in
    rw (c.in_ok-put-in-Some.ensures.known, c.put.ensures.top)
    (found_most _ _ _ _ c.args.to w _ _ c.in-Some.found (g.met.S.BreakSource.valid c.args.source.now) c.requires.held.held (sym c.first_break.ensures.value ∙ c.in-Some.is) (omega (arith, less, long)))

pub returns-in-None-clause-most : goal.returns-in-None-clause-most
returns-in-None-clause-most g c = λ w whole less.
    let lt = c.requires.ordered in
    let held = held_upto _ _ _ _ c.args.to _ _ (g.met.S.BreakSource.valid c.args.source.now) c.requires.held (sym c.first_break.ensures.value ∙ c.in-None.is) (omega (arith, lt)) c.requires.within in
    let long = heads_long _ _ _ _ (noted _ _ _ _ _ _ (g.met.S.BreakSource.valid c.args.source.now).ordered held) in
    let e = none_most _ _ _ _ w _ _ (g.met.S.BreakSource.valid c.args.source.now) held.held whole (omega (arith, less, long)) in
    omega (arith, e, whole)
