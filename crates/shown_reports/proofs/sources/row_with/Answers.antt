-- The index tells the row.
use Rattle.std.proofs.Common.{◌≡◌, ◌+◌, ◌∙◌, ap, arith}
use Rattle.oxc_windows.specs.Breaks.{breaks_of}
use Rattle.oxc_windows.specs.Rows.{row_of}
use Rattle.shown_reports.proofs.sources.row_with.Goals as goal

pub returns : goal.returns
returns c =
    let text = c.args.text.now in
    let counted : c.to_zero_indexed_usize.result + 1 ≡ row_of (breaks_of text) c.args.offset + 1 =
    c.to_zero_indexed_usize.ensures ∙ c.line_index.ensures.row text c.requires ∙ ap (λ o. row_of (breaks_of text) o + 1) c.new.ensures in
    omega (arith, counted)
