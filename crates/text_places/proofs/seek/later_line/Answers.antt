use Rattle.std.proofs.Common.{arith, ◌-◌}
use Rattle.text_places.specs.Pages.{text_of}
use Rattle.text_places.proofs.PagesLemmas.{text_utf8}
use Rattle.text_places.proofs.LinesLemmas.{line_lies}
use Rattle.text_places.proofs.seek.later_line.Goals as goal

pub returns-clause-line : goal.returns-clause-line
returns-clause-line g c =
    let page = c.page_of_row-page.result.now in
    let tells = c.page_of_row-page.ensures.tells in
    let has = c.page_of_row-page.ensures.end in
    let row = c.args.line - page.before.rows in
    let start = rw c.looked_at-text.ensures.text at c.row_end-start.ensures in
    let next = rw c.looked_at-text.ensures.text at c.row_end-next.ensures in
    let limit = rw (c.as_bytes.ensures.value, c.as_str.ensures.value, c.looked_at-text.ensures.text) at c.break_start-limit.ensures.value in
    line_lies (text_of c.args.pages.now) c.args.line row _ (text_utf8 c.args.pages.now) tells (omega (arith, has.low)) (has.ends c.row_end-start.result start) next limit c.break_start-limit.ensures.some
    (omega (arith, tells.rows))
