use Rattle.std.proofs.Common.{◌≡◌, ◌+◌, ◌-◌, ◌≤◌, length}
use Rattle.oxc_windows.specs.Breaks.{breaks_of}
use Rattle.oxc_windows.specs.Rows.{row_of, row_start}
use Rattle.oxc_plan.proofs.heads.place_in.Given as goal

-- the row of the place so far, and where it starts
abbrev pub invariant-loop-found : goal.invariant-loop-found
invariant-loop-found l = record {
  row : l.row ≡ row_of (breaks_of l.fn.scanner.input) (l.begin + l.at);
  start : l.start ≡ row_start (length l.fn.scanner.input) (breaks_of l.fn.scanner.input) l.row;
  upto : l.begin + l.at ≤ l.offset;
}

abbrev pub decreases-loop-found : goal.decreases-loop-found
decreases-loop-found l = l.offset - l.begin - l.at
