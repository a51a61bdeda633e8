use Rattle.std.proofs.Common.{rules, arith, ltb, sym}
use Rattle.std.proofs.lemmas.List.Sorted.{IsPartitionPoint-from_clause, IsPartitionedBy-ltb}
use Rattle.oxc_windows.proofs.Counting.{count_by_cut}
use Rattle.oxc_windows.specs.Rows.{row_of}
use Rattle.oxc_windows.proofs.BreaksLemmas.{rising_ends}
use Rattle.text_tests.proofs.plain_reader.row_at.Goals as goal

pub returns-clause-exact : goal.returns-clause-exact
unfolding row_of
returns-clause-exact c =
    let parted = IsPartitionedBy-ltb (λ b. b.end) _ c.args.offset (rising_ends c.args.breaks.now c.requires) in
    let point = IsPartitionPoint-from_clause (λ b. ltb b.end c.args.offset) _ _ c.partition_point.ensures.partitioned parted (λ a r q k. search rules) in
    sym (count_by_cut (λ b. ltb b.end c.args.offset) c.args.breaks.now c.partition_point.result c.partition_point.ensures.bound
    (λ k d h. point.0 k d (omega arith) h) (λ k d low high. point.1 k d low high))
