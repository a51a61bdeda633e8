-- The reports of one finding more.
use Rattle.found_reports.specs.Listed.{held_in}
use Rattle.line_reports.proofs.AsideLemmas.{each_more}
use Rattle.line_reports.proofs.gathered.Gathered.push_each.Goals as goal

pub loop-findings-preserved : goal.loop-findings-preserved
loop-findings-preserved c = record {
  texts = c.in_ok-push_alone.ensures.texts;
  held = c.in_ok-push_alone.ensures.told;
  listed = c.in_ok-push_alone.ensures.listed;
  found = each_more c.args.columns (held_in c.args.sources.now.entries.items) c.loop-findings.findings.now c.told-item.result c.loop-findings.self.found.found
      c.push_alone.new.self.found.found _ c.in-len1-up.len_at_least c.told-item.is c.in_ok-push_alone.ensures.found c.loop-findings.invariant.found;
}
