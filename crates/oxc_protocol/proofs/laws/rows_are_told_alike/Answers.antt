use Rattle.oxc_protocol.proofs.InfoLemmas.{one_row}
use Rattle.oxc_protocol.proofs.laws.rows_are_told_alike.Goals as goal

pub returns : goal.returns
returns c = one_row c.args._source.now c.args._offset
