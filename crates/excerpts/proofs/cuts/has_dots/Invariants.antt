use Rattle.std.proofs.Common.{◌≡◌, drop}
use Rattle.std.specs.List.{list_any}
use Rattle.excerpts.specs.Cuts.{is_dot}
use Rattle.excerpts.proofs.cuts.has_dots.Given as goal

abbrev pub invariant-loop-c : goal.invariant-loop-c
invariant-loop-c l = list_any is_dot (drop l.c-index l.line) ≡ list_any is_dot l.line
