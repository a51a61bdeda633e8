use Rattle.std.proofs.Common.{◌-◌, ◌≡◌, ◌+◌, ◌≤◌}
use Rattle.oxc_windows.specs.Held.{IsBack}
use Rattle.oxc_windows.proofs.seed.walked_back.Given as goal

abbrev pub invariant-loop-top : goal.invariant-loop-top
invariant-loop-top g l = record {
  back : IsBack (g.S.BreakSource.breaks l.source) l.top l.cut l.at l.starts.items l.heads.items;
  ticks : l.steps + l.at ≡ l.initial.steps + l.cut;
  low : l.low ≤ l.top;
}

abbrev pub decreases-loop-top : goal.decreases-loop-top
decreases-loop-top g l = l.top - l.low
