use Rattle.std.proofs.Common.{◌≡◌, ◌++◌, drop, All}
use Rattle.oxc_windows.specs.Index.{IsIndexOf, index_view}
use Rattle.oxc_windows.specs.Total.{IsNotBefore, IsSpent, first_of, first_from, windows_of}
use Rattle.oxc_windows.proofs.reads.read_all.Given as goal

abbrev pub invariant-loop-i : goal.invariant-loop-i
invariant-loop-i g l = record {
  index : IsIndexOf (g.S.BreakSource.size l.source) (g.S.BreakSource.breaks l.source) l.index;
  before : l.index.before ≡ l.initial.index.before;
  after : l.index.after ≡ l.initial.index.after;
  value : l.found.items ++ windows_of (g.S.BreakSource.size l.source) (g.S.BreakSource.breaks l.source) l.initial.index.before l.initial.index.after (drop l.i l.spans)
      ≡ windows_of (g.S.BreakSource.size l.source) (g.S.BreakSource.breaks l.source) l.initial.index.before l.initial.index.after l.spans;
  first : first_from (g.S.BreakSource.size l.source) l.index.first (drop l.i l.spans) ≡ first_of (g.S.BreakSource.size l.source) l.spans;
  spent : All (λ s. IsNotBefore (g.S.BreakSource.size l.source) (first_of (g.S.BreakSource.size l.source) l.spans) s) l.spans
      → IsSpent (g.S.BreakSource.size l.source) l.initial.steps l.index.first ((index_view l.index).left) l.steps;
}
