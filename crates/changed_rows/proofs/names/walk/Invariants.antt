use Rattle.std.proofs.Common.{◌≡◌, map, drop}
use Rattle.changed_rows.specs.Names.{walked_by}
use Rattle.changed_rows.proofs.names.walk.Given as goal

-- the parts that are left lead on
abbrev pub invariant-loop-part : goal.invariant-loop-part
invariant-loop-part l =
    walked_by l.absolute (map (λ part. part.now) l.at.items) (map (λ part. part.now) (drop l.part-index l.part-items))
    ≡ walked_by l.absolute (map (λ part. part.now) l.initial.at.items) (map (λ part. part.now) l.part-items)
