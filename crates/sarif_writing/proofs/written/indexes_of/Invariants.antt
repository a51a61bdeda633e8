-- Those so far.
use Rattle.std.proofs.Common.{◌≡◌, map, take}
use Rattle.sarif_writing.specs.Written.{index_in}
use Rattle.sarif_writing.proofs.written.indexes_of.Given as goal

abbrev pub invariant-loop-index : goal.invariant-loop-index
invariant-loop-index l = l.indexes.items ≡ map index_in (take l.index l.files)
