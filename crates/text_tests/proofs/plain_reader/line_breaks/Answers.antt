use Rattle.std.proofs.Common.{◌∙◌}
use Rattle.oxc_windows.proofs.BreaksLemmas.{index_valid}
use Rattle.oxc_windows.proofs.PlacesLemmas.{breaks_at_places}
use Rattle.text_tests.proofs.plain_reader.line_breaks.Goals as goal

pub returns-clause-valid : goal.returns-clause-valid
returns-clause-valid c = index_valid c.args.bytes.now c.in_ok-list.list.items (c.in_ok-list.ensures ∙ breaks_at_places c.args.bytes.now)
