-- The reports of one finding more.
use Rattle.found_reports.specs.Listed.{held_in}
use Rattle.line_reports.proofs.GroupLemmas.{groups_more}
use Rattle.line_reports.proofs.gathered.reports_of.Goals as goal

pub loop-rest-preserved : goal.loop-rest-preserved
loop-rest-preserved c = record {
  texts = c.in_ok-push_group.ensures.texts;
  held = c.in_ok-push_group.ensures.told;
  listed = c.in_ok-push_group.ensures.listed;
  found = groups_more c.args.columns (held_in c.args.sources.now.entries.items) c.loop-rest.rest.now c.group-item.result c.loop-rest.gathered.found.found
      c.push_group.new.self.found.found _ c.in-len1-up.len_at_least c.group-item.is c.in_ok-push_group.ensures.found c.loop-rest.invariant.found;
}
