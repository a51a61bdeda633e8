use Rattle.std.proofs.Common.{◌≡◌, ◌-◌, ◌<◌, ◌≤◌, ℕ, Some, length}
use Rattle.std.specs.Option.{unwrap_or}
use Rattle.oxc_windows.specs.Breaks.{breaks_of}
use Rattle.oxc_plan.specs.GroupRead.{IsReadTogether}
use Rattle.oxc_plan.specs.Groups.{span_at, span_window, reach}
use Rattle.oxc_plan.specs.Keeping.{KeepsGroup, ReadsOn}
use Rattle.oxc_plan.proofs.grouping.group_read.Given as goal

-- the spans of the group are joined, and read together
abbrev pub invariant-loop-group : goal.invariant-loop-group
invariant-loop-group l = record {
  scanner : ReadsOn l.fn.scanner l.scanner;
  set : l.scanner.first ≡ Some (unwrap_or l.fn.scanner.first (span_at l.spans l.first).start);
  keeps : KeepsGroup l.fn.scanner.input l.spans l.scanner l.group.places;
  read : IsReadTogether l.fn.scanner.input l.spans l.group;
  start : l.group.places.start ≡ l.first;
  some : l.first < l.group.places.end;
  within : l.group.places.end ≤ length l.spans;
  joined : (at : ℕ) → l.first < at → at < l.group.places.end
      → (span_window (length l.fn.scanner.input) (breaks_of l.fn.scanner.input) l.spans at).line ≤ reach (length l.fn.scanner.input) (breaks_of l.fn.scanner.input) l.spans l.first at;
}

abbrev pub decreases-loop-group : goal.decreases-loop-group
decreases-loop-group l = length l.spans - l.group.places.end
