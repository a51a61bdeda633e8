use Rattle.std.proofs.Common.{◌≤◌}
use Rattle.excerpt_lines.specs.Runs.{EachIn}
use Rattle.excerpt_lines.proofs.runs.run_back.Given as goal

abbrev pub invariant-loop-begin : goal.invariant-loop-begin
invariant-loop-begin l = record {
  from : l.at ≤ l.begin;
  to : l.begin ≤ l.end;
  each : EachIn l.class l.line l.begin l.end;
}

abbrev pub decreases-loop-begin : goal.decreases-loop-begin
decreases-loop-begin l = l.begin
