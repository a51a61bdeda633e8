use Rattle.std.proofs.Common.{◌≡◌, [], map, length}
use Rattle.finding_filters.specs.Baseline.{item_parts, left_in, passed}
use Rattle.finding_filters.proofs.baseline.pass.Given as goal

-- the findings that are left come next
abbrev pub invariant-loop-rest : goal.invariant-loop-rest
invariant-loop-rest l =
    passed l.round l.late l.flags.items (map item_parts l.rest) l.before (left_in l.counts)
    ≡ passed l.round l.late [] (map item_parts l.items) l.taken (left_in l.initial.counts)

abbrev pub decreases-loop-rest : goal.decreases-loop-rest
decreases-loop-rest l = length l.rest
