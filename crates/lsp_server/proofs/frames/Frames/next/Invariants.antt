use Rattle.std.proofs.Common.{length, ◌-◌, ◌≤◌, []}
use Rattle.lsp_server.specs.Ends.{shown, Read}
use Rattle.lsp_server.proofs.frames.Frames.next.Given as goal

abbrev pub invariant-loop-used : goal.invariant-loop-used
invariant-loop-used l = (l.used ≤ length l.bytes) × Read (shown l.initial.self) l.bytes l.used (shown l.self) []

abbrev pub decreases-loop-used : goal.decreases-loop-used
decreases-loop-used l = length l.bytes - l.used
