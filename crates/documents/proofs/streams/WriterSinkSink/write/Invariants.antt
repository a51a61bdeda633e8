-- The count has not fallen.
use Rattle.std.proofs.Common.{◌≤◌}
use Rattle.documents.proofs.streams.WriterSinkSink.write.Given as goal

abbrev pub invariant-loop : goal.invariant-loop
invariant-loop g l = l.initial.self.faults ≤ l.self.faults
