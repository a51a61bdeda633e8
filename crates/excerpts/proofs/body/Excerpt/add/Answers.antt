-- A block is added with its part.
use Rattle.std.proofs.Common.{◌≡◌, true, sym, ◌∙◌}
use Rattle.excerpts.proofs.BodyLemmas.{block_added}
use Rattle.excerpts.proofs.body.Excerpt.add.Goals as goal

pub returns-clause-added : goal.returns-clause-added
returns-clause-added c =
    let so : c.has_block.result ≡ true = c.if-not-has_block.false in
    block_added c.args.spot c.args.part _ _ _ _ c.in_ok-block.block (sym c.has_block.ensures ∙ so) c.in_ok-block.ensures.read c.in_ok-push_part-2.ensures c.in_ok-push_block.ensures
