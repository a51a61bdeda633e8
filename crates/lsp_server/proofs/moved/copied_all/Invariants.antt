-- The copies so far and what is left to copy are all findings.
use Rattle.std.proofs.Common.{◌≡◌, ◌++◌, drop}
use Rattle.lsp_server.proofs.moved.copied_all.Given as goal

abbrev pub invariant-loop-diagnostic : goal.invariant-loop-diagnostic
invariant-loop-diagnostic l = l.copies.items ++ drop l.diagnostic-index l.found ≡ l.found
