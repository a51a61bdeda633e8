use Rattle.std.proofs.Common.{length}
use Rattle.source_store.proofs.place.+begins_with.Given as goal

abbrev pub decreases-begins_with : goal.decreases-begins_with
decreases-begins_with c = length c.folder.now
