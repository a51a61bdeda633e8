use Rattle.std.proofs.Common.{rules, ltb}
use Rattle.std.proofs.lemmas.Bool.{ltb-true, ltb-false}
use Rattle.std.proofs.lemmas.List.Sorted.{IsPartitionPoint-from_clause, IsPartitionedBy-ltb}
use Rattle.utf16_places.proofs.WideLemmas.{starts_rise}
use Rattle.utf16_places.proofs.wide.starting_before.Goals as goal

pub returns-clause-parted : goal.returns-clause-parted
returns-clause-parted c =
    let parted = IsPartitionedBy-ltb (λ w. w.start) c.args.wide.now c.args.offset (starts_rise c.args.wide.now c.requires.known.whole.ascend) in
    let point = IsPartitionPoint-from_clause (λ w. ltb w.start c.args.offset) c.args.wide.now c.partition_point.result c.partition_point.ensures.partitioned parted (λ a r q k. search rules) in
    ((λ k d low h. ltb-true _ _ (point.0 k d low h)), (λ k d low h. ltb-false _ _ (point.1 k d low h)))
