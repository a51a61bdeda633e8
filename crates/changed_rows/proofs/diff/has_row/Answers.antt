-- The first row that doesn't come before tells.
use Rattle.std.proofs.Common.{rules, ap, ◌∙◌}
use Rattle.std.proofs.lemmas.List.Sorted.{IsPartitionPoint-from_clause}
use Rattle.changed_rows.specs.Changes.{comes_before, is_row_to}
use Rattle.changed_rows.proofs.DiffLemmas.{told}
use Rattle.changed_rows.proofs.diff.has_row.Goals as goal

pub returns : goal.returns
returns c =
    let a = c.args in
    let point =
    IsPartitionPoint-from_clause (comes_before a.file a.first) _ _ c.partition_point-start.ensures.partitioned (c.requires a.file a.first) (λ x r q k. search rules) in
    c.is_to.ensures ∙ ap (λ o. is_row_to o a.file a.last) c.row_at.ensures
    ∙ told a.rows.now a.file a.first a.last c.partition_point-start.result c.requires point
