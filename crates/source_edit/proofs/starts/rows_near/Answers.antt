use Rattle.std.proofs.Common.{◌+◌, arith, ◌∙◌}
use Rattle.source_edit.proofs.FoundLemmas.{count_le}
use Rattle.source_edit.proofs.starts.rows_near.Goals as goal

pub returns-clause-ordered : goal.returns-clause-ordered
returns-clause-ordered c =
    let first = c.to_usize.ensures.number ∙ c.start.ensures.start in
    let last = c.to_usize-2.ensures.number ∙ c.end.ensures.end in
    omega (
      arith,
      c.rows_before-first.ensures.counted,
      c.rows_before-behind.ensures.counted,
      count_le c.args.line_starts.now c.to_usize.result (c.to_usize-2.result + 1) (omega (arith, first, last, c.start.ensures.ordered)),
    )
