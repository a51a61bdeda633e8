use Rattle.std.proofs.Common.{arith}
use Rattle.source_location.proofs.CharactersLemmas.{char_count-nil}
use Rattle.source_location.proofs.line_index.boundary_after.Goals as goal

pub loop-at-init : goal.loop-at-init
loop-at-init c = rw char_count-nil (omega arith)
