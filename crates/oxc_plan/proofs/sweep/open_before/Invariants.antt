use Rattle.std.proofs.Common.{◌≡◌, ◌-◌, ◌≤◌, ◌++◌}
use Rattle.std.specs.List.{range_with_len}
use Rattle.oxc_plan.proofs.sweep.open_before.Given as goal

-- the labels from `next` to before `to` were opened
abbrev pub invariant-loop-to : goal.invariant-loop-to
invariant-loop-to l = record {
  opened : l.active.items ≡ l.fn.active.items ++ range_with_len l.next (l.to - l.next);
  from : l.next ≤ l.to;
  upto : l.to ≤ l.past;
}

abbrev pub decreases-loop-to : goal.decreases-loop-to
decreases-loop-to l = l.past - l.to
