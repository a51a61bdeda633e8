-- One item after another.
use Rattle.excerpt_lines.proofs.ItemLemmas.{added_all, added_one}
use Rattle.excerpt_lines.proofs.items.push_items.Goals as goal

pub loop-item-preserved : goal.loop-item-preserved
loop-item-preserved c = record {
  within = c.in-Some.ensures.some.part.within;
  cell = c.in-Some.ensures.some.end_cell_is;
  few = c.in-Some.ensures.some.few;
  added = added_one _ _ _ _ _ _ _ _ c.loop-item.invariant.added c.in-Some.ensures.some c.in-Some.ensures.drawn c.in_ok-push_item.ensures;
}

pub returns : goal.returns
returns c = added_all _ _ _ _ _ _ c.loop-item.invariant.added c.in_default.ensures.none
