use Rattle.std.proofs.Common.{All}
use Rattle.std.specs.Str.{IsCharBoundary}
use Rattle.oxc_plan.proofs.marks.ends_of.Given as goal

abbrev pub invariant-loop-at : goal.invariant-loop-at
invariant-loop-at l = All (IsCharBoundary l.row.text.now) l.ends.items
