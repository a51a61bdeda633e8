use Rattle.std.proofs.Common.{◌≡◌, ◌-◌, ◌<◌, ◌≤◌, ◌++◌, List, ℕ, Some, All, length}
use Rattle.std.specs.declared.ops.Range.{Range}
use Rattle.std.specs.Option.{unwrap_or}
use Rattle.oxc_windows.specs.Breaks.{breaks_of}
use Rattle.oxc_plan.specs.Groups.{AreGroups, span_at}
use Rattle.oxc_plan.specs.Keeping.{KeepsGroup, ReadsOn}
use Rattle.oxc_plan.proofs.grouping.groups_of_spans.Given as goal

-- groups of what is left make the groups of all
abbrev pub invariant-loop-first : goal.invariant-loop-first
invariant-loop-first l = record {
  scanner : ReadsOn l.fn.scanner l.scanner;
  none : l.first ≡ 0 → l.scanner.first ≡ l.fn.scanner.first;
  set : 0 < l.first → l.scanner.first ≡ Some (unwrap_or l.fn.scanner.first (span_at l.spans 0).start);
  keeps : All (KeepsGroup l.fn.scanner.input l.spans l.scanner) l.found.items;
  within : l.first ≤ length l.spans;
  ahead : (rest : List (Range ℕ)) → AreGroups (length l.fn.scanner.input) (breaks_of l.fn.scanner.input) l.spans l.first rest
      → AreGroups (length l.fn.scanner.input) (breaks_of l.fn.scanner.input) l.spans 0 (l.found.items ++ rest);
}

abbrev pub decreases-loop-first : goal.decreases-loop-first
decreases-loop-first l = length l.spans - l.first
