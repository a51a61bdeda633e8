use Rattle.std.proofs.Common.{◌-◌, ◌≡◌, ◌+◌, ◌≤◌, ◌⊎◌}
use Rattle.oxc_windows.specs.Held.{IsHeld, past}
use Rattle.oxc_windows.proofs.held.Rows.reach.Given as goal

abbrev pub invariant-loop-self : goal.invariant-loop-self
invariant-loop-self g l = record {
  held : IsHeld (g.S.BreakSource.size l.source) (g.S.BreakSource.breaks l.source) l.self.top l.self.known l.self.starts.items l.self.heads.items;
  top : l.self.top ≡ l.initial.self.top;
  ticks : l.steps + l.initial.self.known ≡ l.initial.steps + l.self.known;
  near : (l.self.known ≡ l.initial.self.known) ⊎ (l.self.known ≤ past (g.S.BreakSource.breaks l.source) l.to);
  further : l.initial.self.known ≤ l.self.known;
}

abbrev pub decreases-loop-self : goal.decreases-loop-self
decreases-loop-self g l = l.to - l.self.known
