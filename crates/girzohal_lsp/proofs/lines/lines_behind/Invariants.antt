use Rattle.std.proofs.Common.{◌≡◌, length, map}
use Rattle.line_reports.specs.Pieces.{read_parts}
use Rattle.girzohal_lsp.specs.Blocks.{behind}
use Rattle.girzohal_lsp.proofs.lines.lines_behind.Given as goal

abbrev pub invariant-loop-rest : goal.invariant-loop-rest
invariant-loop-rest l = behind (map (λ line. line.now) l.left) (map read_parts l.rest) ≡ behind (map (λ line. line.now) l.lines) (map read_parts l.reads)

abbrev pub decreases-loop-rest : goal.decreases-loop-rest
decreases-loop-rest l = length l.rest
