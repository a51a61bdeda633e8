use Rattle.std.proofs.Common.{ap, length, arith}
use Rattle.oxc_plan.specs.Rows.{row_view}
use Rattle.oxc_plan.proofs.PlanLemmas.{text_short}
use Rattle.oxc_plan.proofs.RowsLemmas.{rows_cut}
use Rattle.oxc_plan.proofs.rows.RowsAhead.cut.Goals as goal

pub returns-clause-next : goal.returns-clause-next
returns-clause-next c =
    let ahead = c.args.self.now in
    rows_cut (row_view c.row_of_piece-row.result) ahead.above ahead.offset ahead.text.now c.first_piece-piece.result.now c.range_from.result.now
    (omega (arith, c.if-is_empty.false, c.is_empty.ensures)) c.first_piece-piece.ensures.exact c.row_of_piece-row.ensures c.range_from.ensures.value

pub returns-clause-text : goal.returns-clause-text
returns-clause-text c =
    omega (arith, text_short c.first_piece-piece.result.now, ap (λ row. length row.text) c.row_of_piece-row.ensures, ap (λ row. row.length) c.row_of_piece-row.ensures)
