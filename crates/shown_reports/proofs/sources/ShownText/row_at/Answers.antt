-- The rows of what is shown are those of the text.
use Rattle.std.proofs.Common.{◌≤◌, ◌∙◌, ap, subst, sym}
use Rattle.oxc_windows.specs.Breaks.{breaks_of}
use Rattle.oxc_windows.specs.Rows.{row_of}
use Rattle.oxc_windows.proofs.BreaksLemmas.{breaks_valid}
use Rattle.oxc_windows.proofs.RowsLemmas.{row_of_le}
use Rattle.shown_reports.proofs.sources.ShownText.row_at.Goals as goal

pub returns-clause-row : goal.returns-clause-row
returns-clause-row c = c.row_in.ensures ∙ ap (λ b. row_of b c.args.offset) (sym c.self.invariant.breaks ∙ ap breaks_of c.self.view_is)

pub returns-clause-few : goal.returns-clause-few
returns-clause-few c =
    subst (λ row. row ≤ c.args.offset) (sym (returns-clause-row c)) (row_of_le (breaks_of c.args.self.now) c.args.offset (breaks_valid c.args.self.now).ordered)
