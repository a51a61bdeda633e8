-- The findings that are kept so far, and those to come.
use Rattle.std.proofs.Common.{◌≡◌, ◌++◌, drop}
use Rattle.std.specs.List.{filter_map}
use Rattle.lsp_server.specs.Moved.{moved_diagnostic}
use Rattle.lsp_server.proofs.moved.moved_all.Given as goal

abbrev pub invariant-loop-diagnostic : goal.invariant-loop-diagnostic
invariant-loop-diagnostic l = l.moved.items ++ filter_map (moved_diagnostic l.change) (drop l.diagnostic-index l.found) ≡ filter_map (moved_diagnostic l.change) l.found
