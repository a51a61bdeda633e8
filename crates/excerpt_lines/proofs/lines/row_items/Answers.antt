-- A row may have no text.
use Rattle.excerpt_lines.proofs.ItemLemmas.{row_alone}
use Rattle.excerpt_lines.proofs.lines.row_items.Goals as goal

pub returns-then-text-line : goal.returns-then-text-line
returns-then-text-line c = row_alone _ _ _ c.in_ok-items.ensures c.if-text-line.true
