use Rattle.std.proofs.Common.{◌≡◌, ◌-◌, ◌<◌, ◌≤◌, ℕ, Some, All, drop, length, map, take}
use Rattle.std.specs.Option.{unwrap_or}
use Rattle.oxc_windows.specs.Breaks.{breaks_of}
use Rattle.oxc_plan.specs.Groups.{AreGroups, groups_of, span_at}
use Rattle.oxc_plan.specs.Keeping.{KeepsGroup, ReadsOn}
use Rattle.oxc_plan.specs.Plan.{ordered_view, snippet_of, snippet_view}
use Rattle.oxc_plan.proofs.snippets.plan_groups.Given as goal

-- as many groups as there are plans are planned, and the others go on from `first`
abbrev pub invariant-loop-first : goal.invariant-loop-first
invariant-loop-first l = record {
  scanner : ReadsOn l.fn.scanner l.scanner;
  none : l.first ≡ 0 → l.scanner.first ≡ l.fn.scanner.first;
  set : 0 < l.first → l.scanner.first ≡ Some (unwrap_or l.fn.scanner.first (span_at l.spans 0).start);
  within : l.first ≤ length l.spans;
  plans : map snippet_view l.plans.items ≡ map (snippet_of l.tabs l.fn.scanner.input (map ordered_view l.labels)) (take (length l.plans.items) (groups_of (length l.fn.scanner.input) (breaks_of l.fn.scanner.input) l.spans));
  keeps : All (KeepsGroup l.fn.scanner.input l.spans l.scanner) (take (length l.plans.items) (groups_of (length l.fn.scanner.input) (breaks_of l.fn.scanner.input) l.spans));
  ahead : AreGroups (length l.fn.scanner.input) (breaks_of l.fn.scanner.input) l.spans l.first (drop (length l.plans.items) (groups_of (length l.fn.scanner.input) (breaks_of l.fn.scanner.input) l.spans));
}

abbrev pub decreases-loop-first : goal.decreases-loop-first
decreases-loop-first l = length l.spans - l.first
