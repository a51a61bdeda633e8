use Rattle.std.proofs.Common.{rules, arith, ltb, sym}
use Rattle.std.proofs.lemmas.List.Sorted.{IsPartitionPoint-from_clause, IsPartitionedBy-ltb}
use Rattle.oxc_windows.specs.Seen.{heads_before}
use Rattle.oxc_windows.proofs.Counting.{count_by_cut}
use Rattle.oxc_windows.proofs.seen.count_before.Goals as goal

pub returns-clause-exact : goal.returns-clause-exact
unfolding heads_before
returns-clause-exact c =
    let parted = IsPartitionedBy-ltb (λ h. h) _ c.args.to c.requires in
    let point = IsPartitionPoint-from_clause (λ h. ltb h c.args.to) _ _ c.partition_point.ensures.partitioned parted (λ a r q k. search rules) in
    sym (count_by_cut (λ h. ltb h c.args.to) c.args.heads.now c.partition_point.result c.partition_point.ensures.bound
    (λ k d h. point.0 k d (omega arith) h) (λ k d low high. point.1 k d low high))
