use Rattle.std.proofs.Common.{rules, arith, ltb, sym}
use Rattle.std.proofs.lemmas.List.Sorted.{IsPartitionPoint-from_clause, IsPartitionedBy-ltb}
use Rattle.source_location.proofs.Counting.{count_by_cut}
use Rattle.source_edit.proofs.starts.rows_before.Goals as goal

pub returns-clause-counted : goal.returns-clause-counted
returns-clause-counted c =
    let starts = c.args.line_starts.now in
    let place = c.args.place in
    let parted = IsPartitionedBy-ltb (λ start. start) starts place c.requires in
    let point = IsPartitionPoint-from_clause (λ start. ltb start place) _ _ c.partition_point.ensures.partitioned parted (λ a r q k. search rules) in
    sym (count_by_cut (λ start. ltb start place) starts c.partition_point.result c.partition_point.ensures.bound (λ k d h. point.0 k d (omega arith) h) (λ k d low high. point.1 k d low high))
