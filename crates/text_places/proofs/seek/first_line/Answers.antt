use Rattle.std.proofs.Common.{arith, length}
use Rattle.source_location.specs.Breaks.{breaks_of}
use Rattle.source_location.proofs.RowsLemmas.{row_start_first}
use Rattle.text_places.specs.Pages.{text_of}
use Rattle.text_places.proofs.PagesLemmas.{text_utf8}
use Rattle.text_places.proofs.LinesLemmas.{line_lies}
use Rattle.text_places.proofs.seek.first_line.Goals as goal

pub returns-clause-line : goal.returns-clause-line
returns-clause-line g c =
    let text = text_of c.args.pages.now in
    let first = c.first_page-page.ensures in
    let next = rw c.looked_at-text.ensures.text at c.row_end-next.ensures in
    let limit = rw (c.as_bytes.ensures.value, c.as_str.ensures.value, c.looked_at-text.ensures.text) at c.break_start-limit.ensures.value in
    line_lies text 0 0 _ (text_utf8 c.args.pages.now) first.tells (omega (arith, first.rows)) (omega (arith, first.bytes, row_start_first (length text) (breaks_of text))) next limit c.break_start-limit.ensures.some
    (omega (arith, first.tells.rows))
