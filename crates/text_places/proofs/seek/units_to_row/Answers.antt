use Rattle.std.proofs.Common.{ap, length, sym, ◌∙◌}
use Rattle.source_location.specs.Breaks.{breaks_of}
use Rattle.source_location.proofs.RowsLemmas.{row_start_first}
use Rattle.text_places.specs.Bytes.{before}
use Rattle.text_places.specs.Places.{line_begin}
use Rattle.text_places.specs.Pages.{text_of}
use Rattle.text_places.proofs.UnitsLemmas.{before-none}
use Rattle.text_places.proofs.seek.units_to_row.Goals as goal

pub returns-then-row-eq0 : goal.returns-then-row-eq0
returns-then-row-eq0 c =
    let text = text_of c.args.pages.now in
    sym (
    ap (λ r. before c.args.encoding text (line_begin text r)) c.if-row-eq0.true
    ∙ ap (before c.args.encoding text) (row_start_first (length text) (breaks_of text))
    ∙ before-none c.args.encoding text
    )
