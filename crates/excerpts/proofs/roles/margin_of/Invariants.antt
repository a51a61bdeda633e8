use Rattle.std.proofs.Common.{◌≡◌, drop}
use Rattle.excerpts.specs.Roles.{margin_from, margin_of}
use Rattle.excerpts.proofs.roles.margin_of.Given as goal

abbrev pub invariant-loop-line : goal.invariant-loop-line
invariant-loop-line l = margin_from l.margin (drop l.line-index l.lines) ≡ margin_of l.lines
