use Rattle.std.proofs.Common.{rules, leb}
use Rattle.std.proofs.lemmas.List.Sorted.{IsPartitionPoint-from_clause, IsPartitionedBy-leb}
use Rattle.text_places.proofs.ListedLemmas.{ends_rise, counted_ends}
use Rattle.text_places.proofs.page_text.ends_upto.Goals as goal

pub returns : goal.returns
returns c =
    let rise = ends_rise c.args.bytes.now c.args.ends.now c.requires.ends.each in
    let point = IsPartitionPoint-from_clause (λ end. leb end c.args.to) c.args.ends.now c.partition_point.result c.partition_point.ensures.partitioned (IsPartitionedBy-leb (λ end. end) c.args.ends.now c.args.to rise) (λ a r q k. search rules) in
    counted_ends c.args.bytes.now c.args.ends.now c.args.to c.partition_point.result c.requires.ends c.requires.within c.partition_point.ensures.bound point
