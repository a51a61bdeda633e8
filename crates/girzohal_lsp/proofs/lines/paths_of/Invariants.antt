-- The paths so far, and those to come.
use Rattle.std.proofs.Common.{◌≡◌, ◌++◌, drop, map, string_bytes}
use Rattle.girzohal_lsp.proofs.BlockLemmas.{paths_in}
use Rattle.girzohal_lsp.proofs.lines.paths_of.Given as goal

abbrev pub invariant-loop-name : goal.invariant-loop-name
invariant-loop-name l = map string_bytes l.paths.items ++ paths_in l.spelling (drop l.name-index l.names) ≡ paths_in l.spelling l.names
