use Rattle.std.proofs.Common.{◌≡◌, ◌++◌, drop}
use Rattle.oxc_protocol.proofs.diagnostic.copied_labels.Given as goal

-- what is copied and what is still to come make up the labels
abbrev pub invariant-loop-label : goal.invariant-loop-label
invariant-loop-label l = l.copy.items ++ drop l.label-index l.labels ≡ l.labels
