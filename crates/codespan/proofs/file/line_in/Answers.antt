use Rattle.std.proofs.Common.{rules, arith, leb}
use Rattle.std.proofs.lemmas.List.Sorted.{IsPartitionPoint-from_clause, IsPartitionedBy-leb}
use Rattle.codespan_reporting.specs.Lines.{line_at}
use Rattle.codespan.proofs.Counting.{count_by_cut, count_by_map, rises_by}
use Rattle.codespan.proofs.file.line_in.Goals as goal

pub returns : goal.returns
unfolding line_at
returns c =
    let starts = c.args.starts.now in
    let place = c.args.byte_index.0 in
    let parted = IsPartitionedBy-leb (λ start. start.0) starts place (rises_by (λ start. start.0) starts c.requires) in
    let point = IsPartitionPoint-from_clause (λ start. leb start.0 place) _ _ c.partition_point.ensures.partitioned parted (λ a r q k. search rules) in
    let count =
    count_by_cut (λ start. leb start.0 place) starts c.partition_point.result c.partition_point.ensures.bound
    (λ k d h. point.0 k d (omega arith) h) (λ k d low high. point.1 k d low high) in
    omega (arith, count, count_by_map (λ start. leb start place) (λ start. start.0) starts)
