use Rattle.std.proofs.Common.{arith, length}
use Rattle.source_location.specs.Breaks.{breaks_of}
use Rattle.source_location.proofs.BreaksLemmas.{breaks_valid}
use Rattle.source_location.proofs.RowsLemmas.{row_start-le-next}
use Rattle.source_edit.proofs.edit_text.EditText.line_range.Goals as goal

pub new-requires : goal.new-requires
new-requires c =
    let text = c.args.self.now.text in
    omega (arith, row_start-le-next (length text) (breaks_of text) c.args.line (breaks_valid text), c.row_start-start.ensures, c.row_start-end.ensures)
