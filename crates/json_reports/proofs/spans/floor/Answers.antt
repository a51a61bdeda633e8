-- It is the nearest one below.
use Rattle.sarif_spans.proofs.OffsetLemmas.{floor_is}
use Rattle.json_reports.proofs.spans.floor.Goals as goal

pub returns-clause-value : goal.returns-clause-value
returns-clause-value c =
    let found = c.floor_char_boundary.ensures in
    floor_is c.args.text.now c.args.at c.floor_char_boundary.result found.bound found.boundary found.nearest
