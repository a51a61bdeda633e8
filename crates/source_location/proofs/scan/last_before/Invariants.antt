use Rattle.std.proofs.Common.{◌≤◌}
use Rattle.memchr.specs.Find.{Nowhere, Passes, is_byte2}
use Rattle.source_location.proofs.scan.last_before.Given as goal

abbrev pub invariant-loop-place : goal.invariant-loop-place
invariant-loop-place l = record {
  before : l.place ≤ l.end;
  passed : Nowhere (Passes (is_byte2 10 13) l.bytes) l.place l.end;
}

abbrev pub decreases-loop-place : goal.decreases-loop-place
decreases-loop-place l = l.place
