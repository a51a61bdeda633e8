use Rattle.std.proofs.Common.{◌≡◌, ◌+◌, ◌*◌, ◌≤◌, drop}
use Rattle.oxc_plan.specs.Width.{pen_after}
use Rattle.oxc_plan.proofs.columns.pen_over.Given as goal

-- the bytes that are left lead to the same pen, and there is room for them
abbrev pub invariant-loop-byte : goal.invariant-loop-byte
invariant-loop-byte l = record {
  ahead : pen_after l.tabs l.pen (drop l.byte-index l.bytes) ≡ pen_after l.tabs l.fn.pen l.bytes;
  room : l.pen.column ≤ l.fn.pen.column + 17 * l.byte-index;
}
