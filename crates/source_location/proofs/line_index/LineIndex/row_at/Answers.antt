use Rattle.std.proofs.Common.{◌≡◌, arith, ap, ◌∙◌, count_by, leb}
use Rattle.source_location.proofs.IndexLemmas.{index_row}
use Rattle.source_location.proofs.line_index.LineIndex.row_at.Goals as goal

counted : (c : goal.After-rows_started) → c.rows_started.result ≡ count_by (λ s. leb s c.args.offset) c.args.self.now.line_starts
counted c = c.rows_started.ensures.counted ∙ ap (count_by (λ s. leb s c.args.offset)) c.line_starts.ensures.starts

pub returns-clause-counted : goal.returns-clause-counted
returns-clause-counted c = omega (arith, counted c, c.rows_started.ensures.some)

pub returns-clause-row : goal.returns-clause-row
returns-clause-row c text e = omega (arith, counted c, index_row c.args.self.now text c.args.offset e)
