use Rattle.std.proofs.Common.{◌≡◌, rules, arith, count_by, leb, sym}
use Rattle.std.proofs.lemmas.List.Sorted.{IsPartitionPoint-from_clause, IsPartitionedBy-leb}
use Rattle.source_location.proofs.Counting.{count_by_cut}
use Rattle.source_location.proofs.IndexLemmas.{some_start}
use Rattle.utf16_places.proofs.index.lines_started.Goals as goal

counted : (c : goal.After-partition_point) → c.partition_point.result ≡ count_by (λ s. leb s c.args.offset) c.args.line_starts.now
counted c =
    let parted = IsPartitionedBy-leb (λ s. s) _ c.args.offset c.requires.rise in
    let point = IsPartitionPoint-from_clause (λ s. leb s c.args.offset) _ _ c.partition_point.ensures.partitioned parted (λ a r q k. search rules) in
    sym (count_by_cut (λ s. leb s c.args.offset) c.args.line_starts.now c.partition_point.result c.partition_point.ensures.bound
    (λ k d h. point.0 k d (omega arith) h) (λ k d low high. point.1 k d low high))

pub returns-clause-counted : goal.returns-clause-counted
returns-clause-counted c = counted c

pub returns-clause-some : goal.returns-clause-some
returns-clause-some c = omega (arith, counted c, some_start c.args.line_starts.now c.args.offset c.requires.first)
