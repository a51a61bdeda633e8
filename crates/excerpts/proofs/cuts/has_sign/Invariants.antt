use Rattle.std.proofs.Common.{◌≡◌, drop}
use Rattle.std.specs.List.{list_any}
use Rattle.excerpts.specs.Cuts.{is_signed}
use Rattle.excerpts.proofs.cuts.has_sign.Given as goal

abbrev pub invariant-loop-line : goal.invariant-loop-line
invariant-loop-line l = list_any is_signed (drop l.line-index l.lines) ≡ list_any is_signed l.lines
