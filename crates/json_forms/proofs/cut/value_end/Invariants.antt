-- The brackets don't close before.
use Rattle.std.proofs.Common.{◌≡◌, ◌≤◌, drop}
use Rattle.json_forms.specs.Cut.{closed_at}
use Rattle.json_forms.specs.declared.cut.Mode.TheVariants.{Plain}
use Rattle.json_forms.proofs.cut.value_end.Given as goal

abbrev pub invariant-loop-at : goal.invariant-loop-at
invariant-loop-at l = record {
  ahead : closed_at Plain 0 l.from (drop l.from l.bytes) ≡ closed_at l.mode l.depth l.at (drop l.at l.bytes);
  shallow : l.depth ≤ l.at;
}
