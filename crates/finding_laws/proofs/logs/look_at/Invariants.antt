-- Those so far.
use Rattle.std.proofs.Common.{All, take}
use Rattle.finding_laws.specs.Logs.Meant.{IsSource}
use Rattle.finding_laws.proofs.logs.look_at.Given as goal

abbrev pub invariant-loop-index : goal.invariant-loop-index
invariant-loop-index l = All IsSource (take l.index l.files)
