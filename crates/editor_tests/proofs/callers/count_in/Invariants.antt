-- Each message used a byte at least, and what is counted and what is to come are all bodies.
use Rattle.std.proofs.Common.{◌≡◌, ◌+◌, ◌-◌, ◌≤◌, length, drop}
use Rattle.lsp_server.specs.Ends.{shown}
use Rattle.lsp_server.specs.Run.{bodies}
use Rattle.editor_tests.proofs.callers.count_in.Given as goal

abbrev pub invariant-loop-used : goal.invariant-loop-used
invariant-loop-used l = record {
  within : l.used ≤ length l.bytes;
  few : l.count ≤ l.used;
  all : l.count + length (bodies (shown l.frames) (drop l.used l.bytes)) ≡ length (bodies (shown l.initial.frames) l.bytes);
}

abbrev pub decreases-loop-used : goal.decreases-loop-used
decreases-loop-used l = length l.bytes - l.used
