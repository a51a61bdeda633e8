-- The rows of what is shown are those of the text.
use Rattle.std.proofs.Common.{◌∙◌, ap, ap₂, length, sym}
use Rattle.oxc_windows.specs.Breaks.{breaks_of}
use Rattle.oxc_windows.specs.Rows.{row_start}
use Rattle.shown_reports.proofs.sources.ShownText.row_start.Goals as goal

pub returns : goal.returns
returns c =
    c.start_in.ensures
    ∙ ap₂ (λ n b. row_start n b c.args.row) (sym c.self.invariant.len ∙ ap length c.self.view_is) (sym c.self.invariant.breaks ∙ ap breaks_of c.self.view_is)
