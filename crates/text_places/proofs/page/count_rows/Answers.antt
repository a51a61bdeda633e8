use Rattle.std.proofs.Common.{refl, take, ◌∙◌}
use Rattle.text_places.proofs.ScanLemmas.{rows_by_lf}
use Rattle.text_places.proofs.page.count_rows.Goals as goal

pub returns-in-None : goal.returns-in-None
returns-in-None c =
    let bytes = c.args.bytes.now in
    c.count.ensures ∙ rows_by_lf bytes (take c.args.to bytes) c.args.to c.requires refl c.in-None.ensures
