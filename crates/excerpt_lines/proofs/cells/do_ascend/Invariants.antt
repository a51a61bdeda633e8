use Rattle.std.proofs.Common.{◌≡◌, true, length}
use Rattle.excerpt_lines.specs.Cells.{ascend}
use Rattle.excerpt_lines.proofs.cells.do_ascend.Given as goal

abbrev pub invariant-loop-cells : goal.invariant-loop-cells
invariant-loop-cells l = ascend l.least l.cells ≡ true → ascend 0 l.initial.cells ≡ true

abbrev pub decreases-loop-cells : goal.decreases-loop-cells
decreases-loop-cells l = length l.cells
