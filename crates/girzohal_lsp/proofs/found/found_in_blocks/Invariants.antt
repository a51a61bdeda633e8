-- The blocks so far, and those to come.
use Rattle.found_reports.specs.Listed.{held_in}
use Rattle.girzohal_lsp.specs.Blocks.{block_parts, picked_in}
use Rattle.girzohal_lsp.proofs.FoundLemmas.{PartsSoFar}
use Rattle.girzohal_lsp.proofs.found.found_in_blocks.Given as goal

abbrev pub invariant-loop-block : goal.invariant-loop-block
invariant-loop-block l =
    PartsSoFar l.text (λ block. picked_in l.path l.columns (held_in l.sources.entries.items) (block_parts block)) l.blocks l.block-index l.shown.items
