use Rattle.std.proofs.Common.{◌≡◌, length, map, string_bytes}
use Rattle.girzohal_lsp.specs.Blocks.{is_one_named}
use Rattle.girzohal_lsp.proofs.found.is_one_named.Given as goal

abbrev pub invariant-loop-rest : goal.invariant-loop-rest
invariant-loop-rest l = is_one_named l.path (map string_bytes l.rest) ≡ is_one_named l.path (map string_bytes l.paths)

abbrev pub decreases-loop-rest : goal.decreases-loop-rest
decreases-loop-rest l = length l.rest
