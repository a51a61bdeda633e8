use Rattle.std.proofs.Common.{rules}
use Rattle.std.proofs.lemmas.List.Sorted.{IsPartitionPoint-from_clause}
use Rattle.utf16_places.proofs.SearchLemmas.{passes, passes_parted}
use Rattle.utf16_places.proofs.wide.reached_by.Goals as goal

pub returns-clause-parted : goal.returns-clause-parted
returns-clause-parted c =
    let parted = passes_parted c.requires.text c.args.wide.now c.args.start c.args.limit c.args.unit c.requires.known c.requires.part in
    IsPartitionPoint-from_clause (passes c.args.start c.args.limit c.args.unit) c.args.wide.now c.partition_point.result c.partition_point.ensures.partitioned parted (λ a r q k. search rules)
