use Rattle.std.proofs.Common.{◌≡◌, ◌≤◌, ◌-◌, length}
use Rattle.excerpt_lines.specs.Cells.{EachNarrow, narrow_end}
use Rattle.excerpt_lines.proofs.cells.past_narrow.Given as goal

abbrev pub invariant-loop-end : goal.invariant-loop-end
invariant-loop-end l = record {
  from : l.at ≤ l.end;
  each : EachNarrow l.line l.at l.end;
  value : narrow_end l.line l.end ≡ narrow_end l.line l.at;
}

abbrev pub decreases-loop-end : goal.decreases-loop-end
decreases-loop-end l = length l.line - l.end
