use Rattle.std.proofs.Common.{◌≡◌, map, drop}
use Rattle.source_store.specs.Place.{walked_by}
use Rattle.source_store.proofs.place.walk.Given as goal

-- the parts that are left lead on
abbrev pub invariant-loop-part : goal.invariant-loop-part
invariant-loop-part l =
    walked_by (map (λ part. part.now) l.at.items) (map (λ part. part.now) (drop l.part-index l.part-items)) ≡ walked_by (map (λ part. part.now) l.initial.at.items) (map (λ part. part.now) l.part-items)
