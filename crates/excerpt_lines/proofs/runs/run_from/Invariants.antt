use Rattle.std.proofs.Common.{◌≡◌, ◌≤◌, ◌-◌, length}
use Rattle.excerpt_lines.specs.Runs.{EachIn, run_end}
use Rattle.excerpt_lines.proofs.runs.run_from.Given as goal

abbrev pub invariant-loop-end : goal.invariant-loop-end
invariant-loop-end l = record {
  from : l.at ≤ l.end;
  within : l.end ≤ length l.line;
  each : EachIn l.class l.line l.at l.end;
  value : run_end l.class l.line l.end ≡ run_end l.class l.line l.at;
}

abbrev pub decreases-loop-end : goal.decreases-loop-end
decreases-loop-end l = length l.line - l.end
