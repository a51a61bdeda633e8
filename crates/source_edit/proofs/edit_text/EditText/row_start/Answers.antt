use Rattle.std.proofs.Common.{arith, length, get_or, ap, sym, ◌∙◌, ◌≡◌, ◌<◌, ◌≤◌}
use Rattle.source_location.specs.Breaks.{breaks_of}
use Rattle.source_location.specs.Rows.{line_starts}
use Rattle.oxc_windows.specs.Rows.{row_start}
use Rattle.std.proofs.lemmas.List.{get_or_default, get_or_past}
use Rattle.source_edit.proofs.edit_text.EditText.row_start.Goals as goal

pub returns-then-row-starts : goal.returns-then-row-starts
unfolding row_start
returns-then-row-starts c =
    let text = c.args.self.now.text in
    let starts = line_starts (breaks_of text) in
    let row = c.args.row in
    let found = c.index-starts-row.result in
    let lt : row < length starts = omega (arith, ap length c.line_starts-starts.ensures) in
    c.index-starts-row.is ∙ ap (λ l. get_or l row found) c.line_starts-starts.ensures ∙ get_or_default starts row found (length text) lt

pub returns-else-row-starts : goal.returns-else-row-starts
unfolding row_start
returns-else-row-starts c =
    let text = c.args.self.now.text in
    let starts = line_starts (breaks_of text) in
    let past : length starts ≤ c.args.row = omega (arith, ap length c.line_starts-starts.ensures) in
    omega (arith, ap length c.text.ensures.text, get_or_past starts c.args.row (length text) past)
