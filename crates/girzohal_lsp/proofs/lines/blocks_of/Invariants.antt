-- The blocks so far, and those to come.
use Rattle.std.proofs.Common.{length, map}
use Rattle.line_reports.specs.Pieces.{read_parts}
use Rattle.girzohal_lsp.specs.Blocks.{block_parts}
use Rattle.girzohal_lsp.proofs.BlockLemmas.{CutSoFar}
use Rattle.girzohal_lsp.proofs.lines.blocks_of.Given as goal

abbrev pub invariant-loop-left : goal.invariant-loop-left
invariant-loop-left l =
    CutSoFar (map (λ line. line.now) l.lines) (map read_parts l.reads) (map (λ line. line.now) l.left) (map read_parts l.rest) (map block_parts l.blocks.items)

abbrev pub decreases-loop-left : goal.decreases-loop-left
decreases-loop-left l = length l.rest
