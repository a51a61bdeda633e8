use Rattle.std.proofs.Common.{length, ◌<◌}
use Rattle.text_places.proofs.plain.back_to_row.Given as goal

abbrev pub invariant-loop-at : goal.invariant-loop-at
invariant-loop-at l = record { within : l.at < length l.pages }

abbrev pub decreases-loop-at : goal.decreases-loop-at
decreases-loop-at l = l.at
