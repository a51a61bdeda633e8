use Rattle.std.proofs.Common.{◌≡◌, ◌++◌, drop, length, true}
use Rattle.excerpts.specs.Roles.{margin_of, roles_from}
use Rattle.excerpts.proofs.roles.roles_of.Given as goal

abbrev pub invariant-loop-line : goal.invariant-loop-line
invariant-loop-line l = record {
  value : l.roles.items ++ roles_from l.kind l.spot l.margin l.first (drop l.line-index l.lines) ≡ roles_from l.kind l.spot (margin_of l.lines) true l.lines;
  same : length l.roles.items ≡ l.line-index;
}
