-- The reports of one block more.
use Rattle.found_reports.specs.Listed.{held_in}
use Rattle.line_reports.specs.Told.{told_parts}
use Rattle.line_reports.proofs.AsideLemmas.{aside_head, aside_rest, asides_more}
use Rattle.line_reports.proofs.gathered.Gathered.push_asides.Goals as goal

pub push_block-requires-clause-aside : goal.push_block-requires-clause-aside
push_block-requires-clause-aside c =
    aside_head (held_in c.args.sources.now.entries.items) c.loop-asides.asides.now c.aside-item.result c.in-len1-up.len_at_least c.aside-item.is c.loop-asides.invariant.asides

pub loop-asides-preserved : goal.loop-asides-preserved
loop-asides-preserved c = record {
  texts = c.in_ok-push_block.ensures.texts;
  held = c.in_ok-push_block.ensures.told;
  listed = c.in_ok-push_block.ensures.listed;
  asides = aside_rest (held_in c.args.sources.now.entries.items) c.loop-asides.asides.now c.in-len1-up.len_at_least c.loop-asides.invariant.asides;
  found = asides_more (held_in c.args.sources.now.entries.items) (told_parts c.args.told.now) c.loop-asides.asides.now c.aside-item.result c.loop-asides.self.found.found
      c.push_block.new.self.found.found _ c.in-len1-up.len_at_least c.aside-item.is c.in_ok-push_block.ensures.found c.loop-asides.invariant.found;
}
