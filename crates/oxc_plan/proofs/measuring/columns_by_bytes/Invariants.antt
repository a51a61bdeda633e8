use Rattle.std.proofs.Common.{◌≡◌, ◌*◌, ◌≤◌, length, take}
use Rattle.oxc_plan.specs.Measuring.{HaveColumnsUpTo}
use Rattle.oxc_plan.specs.Width.{at_margin, pen_after}
use Rattle.oxc_plan.proofs.measuring.columns_by_bytes.Given as goal

-- the columns before the places so far are known, and the pen stands at the last of them
abbrev pub invariant-loop-place : goal.invariant-loop-place
invariant-loop-place l = record {
  have : HaveColumnsUpTo l.tabs l.text l.places l.columns.items l.offset;
  index : length l.columns.items ≡ l.place-index;
  pen : l.pen ≡ pen_after l.tabs at_margin (take l.offset l.text);
  offset : l.offset ≤ length l.text;
  small : l.pen.column ≤ 17 * l.offset;
}
