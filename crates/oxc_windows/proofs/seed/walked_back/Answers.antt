use Rattle.std.proofs.Common.{arith, sym, ◌∙◌, refl}
use Rattle.oxc_windows.proofs.BackLemmas.{back_begin, back_outside, back_found, back_here, none_above, walk_found, walk_held}
use Rattle.oxc_windows.proofs.seed.walked_back.Goals as goal

pub loop-top-init : goal.loop-top-init
loop-top-init g c = record {
  back = record {
    taken = _;
    walk = back_begin _ _ _ (g.met.S.BreakSource.valid c.args.source.now).ordered c.requires.place c.requires.outside;
    starts_are = c.new-starts.ensures.items;
    heads_are = c.new-heads.ensures.items;
  };
  ticks = refl;
  low = c.requires.low;
}

pub last_break-requires-clause-outside : goal.last_break-requires-clause-outside
last_break-requires-clause-outside g c = back_outside _ _ _ _ _ c.loop-top.invariant.back.walk

pub overflow_add-found : goal.overflow_add-found
overflow_add-found g c =
    let e = back_found _ _ _ _ _ c.in-Some.found (g.met.S.BreakSource.valid c.args.source.now).ordered c.loop-top.invariant.back.walk (sym c.last_break.ensures.value ∙ c.in-Some.is) in
    let near = c.loop-top.invariant.back.walk.ordered in
    omega (arith, e.3, near, c.requires.within, g.met.S.BreakSource.short c.args.source.now)

pub overflow_cast-found : goal.overflow_cast-found
overflow_cast-found g c =
    let e = back_found _ _ _ _ _ c.in-Some.found (g.met.S.BreakSource.valid c.args.source.now).ordered c.loop-top.invariant.back.walk (sym c.last_break.ensures.value ∙ c.in-Some.is) in
    let near = c.loop-top.invariant.back.walk.ordered in
    omega (arith, e.3, near, c.requires.within, g.met.S.BreakSource.short c.args.source.now)

pub overflow_cast-found-in-loop-top : goal.overflow_cast-found-in-loop-top
overflow_cast-found-in-loop-top g c =
    let e = back_found _ _ _ _ _ c.in-Some.found (g.met.S.BreakSource.valid c.args.source.now).ordered c.loop-top.invariant.back.walk (sym c.last_break.ensures.value ∙ c.in-Some.is) in
    let near = c.loop-top.invariant.back.walk.ordered in
    omega (arith, e.2, e.3, near, c.requires.within, g.met.S.BreakSource.short c.args.source.now)

pub loop-top-preserved : goal.loop-top-preserved
loop-top-preserved g c =
    let e = back_found _ _ _ _ _ c.in-Some.found (g.met.S.BreakSource.valid c.args.source.now).ordered c.loop-top.invariant.back.walk (sym c.last_break.ensures.value ∙ c.in-Some.is) in
    let ticks = c.loop-top.invariant.ticks in
    record {
      back = rw (c.in_ok-push.ensures.items, c.in_ok-push-2.ensures.items)
          (walk_found _ _ _ _ _ _ c.in-Some.found (g.met.S.BreakSource.valid c.args.source.now).ordered c.loop-top.invariant.back (sym c.last_break.ensures.value ∙ c.in-Some.is));
      ticks = omega (arith, c.in-Some.ensures.ticks, ticks, e.1, e.2, e.3);
      low = omega (arith, c.loop-top-test.true);
    }

pub row_begin-requires-clause-back : goal.row_begin-requires-clause-back
row_begin-requires-clause-back g c = back_here _ _ _ _ _ c.loop-top.invariant.back.walk

pub returns-clause-held : goal.returns-clause-held
returns-clause-held g c =
    walk_held _ _ _ _ c.loop-top.at c.row_begin.result c.loop-top.starts.items c.loop-top.heads.items _ _ _ (g.met.S.BreakSource.valid c.args.source.now) c.loop-top.invariant.back c.requires.within
    c.row_begin.ensures.value c.row_begin.ensures.low c.in_ok-push-3.ensures.items c.reverse.ensures.items c.reverse-2.ensures.items

-- where a row above is left, there is a break
pub unreachable-requires : goal.unreachable-requires
unreachable-requires g c =
    let none = none_above _ _ _ (g.met.S.BreakSource.valid c.args.source.now).ordered (back_here _ _ _ _ _ c.loop-top.invariant.back.walk) (sym c.last_break.ensures.value ∙ c.in_default.is) in
    omega (arith, none, c.loop-top-test.true)
