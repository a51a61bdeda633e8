use Rattle.std.proofs.Common.{◌+◌, sym, subst}
use Rattle.found_reports.specs.Listed.{held_in}
use Rattle.girzohal_lsp.specs.Blocks.{block_parts, picked_in}
use Rattle.girzohal_lsp.specs.declared.block.Block.{Block}
use Rattle.girzohal_lsp.proofs.FoundLemmas.{PartsSoFar, all_parts, no_part, part_more}
use Rattle.girzohal_lsp.proofs.found.found_in_blocks.Goals as goal

pub loop-block-init : goal.loop-block-init
loop-block-init c =
    rw c.new-shown.ensures.items
    (no_part c.args.text.now (λ (block : Block). picked_in c.args.path.now c.args.columns (held_in c.args.sources.now.entries.items) (block_parts block)) c.args.blocks.now)

pub loop-block-preserved : goal.loop-block-preserved
loop-block-preserved c =
    let i = c.loop-block.block-index in
    let f = (λ (block : Block). picked_in c.args.path.now c.args.columns (held_in c.args.sources.now.entries.items) (block_parts block)) in
    subst (PartsSoFar c.args.text.now f c.args.blocks.now (i + 1)) (sym c.in_ok-append.ensures.items)
    (part_more c.args.text.now f c.args.blocks.now i c.block-item.result c.in_ok-found.found.items c.loop-block.shown.items
    c.loop-block-test.true c.block-item.is c.in_ok-found.ensures c.loop-block.invariant)

pub returns : goal.returns
returns c =
    all_parts c.args.text.now (λ (block : Block). picked_in c.args.path.now c.args.columns (held_in c.args.sources.now.entries.items) (block_parts block)) c.args.blocks.now c.loop-block.block-index c.loop-block.shown.items
    c.loop-block-test.false c.loop-block.invariant
