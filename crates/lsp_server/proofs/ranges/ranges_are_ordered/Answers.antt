use Rattle.lsp_server.proofs.OrderLemmas.{ranges_ordered}
use Rattle.lsp_server.proofs.ranges.ranges_are_ordered.Goals as goal

pub returns : goal.returns
returns c = ranges_ordered
