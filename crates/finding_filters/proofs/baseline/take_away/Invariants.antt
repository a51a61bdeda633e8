use Rattle.std.proofs.Common.{◌≡◌, map, length}
use Rattle.finding_filters.specs.Baseline.{item_parts, left_in, taken_away}
use Rattle.finding_filters.proofs.baseline.take_away.Given as goal

-- the findings that are left come next
abbrev pub invariant-loop-rest : goal.invariant-loop-rest
invariant-loop-rest l =
    taken_away (left_in l.counts) (map item_parts l.rest) l.before l.after ≡ taken_away (left_in l.initial.counts) (map item_parts l.items) l.fn.before l.fn.after

abbrev pub decreases-loop-rest : goal.decreases-loop-rest
decreases-loop-rest l = length l.rest
