-- The row is one of the text.
use Rattle.std.proofs.Common.{◌≡◌, Some, sym, length}
use Rattle.std.proofs.lemmas.Bool.{ltb-true}
use Rattle.line_reports.proofs.DrawingLemmas.{row_stands}
use Rattle.line_reports.proofs.drawings.place_on.Goals as goal

pub place_in-at-requires : goal.place_in-at-requires
place_in-at-requires c =
    let some : c.in-Some-Some.field-0.now ≡ Some c.in-Some-Some.laid = cc in
    row_stands c.args.text.now c.args.laid.now c.args.row c.in-Some-Some.field-0.now c.in-Some-Some.laid c.requires (ltb-true c.args.row (length c.args.laid.now) (sym c.in-Some-Some.ensures.lookup.0)) c.in-Some-Some.ensures.lookup.1 some
