-- A label stands, and so do those behind it.
use Rattle.found_reports.specs.Listed.{held_in}
use Rattle.line_reports.specs.Told.{told_parts}
use Rattle.line_reports.proofs.AsideLemmas.{head_stands, labels_more, rest_stands}
use Rattle.line_reports.proofs.gathered.Gathered.push_block.Goals as goal

pub push_label-requires-clause-stands : goal.push_label-requires-clause-stands
push_label-requires-clause-stands c =
    head_stands (held_in c.args.sources.now.entries.items c.as_str-name.result.now) c.loop-labels.labels.now c.placed-item.result c.in-len1-up.len_at_least c.placed-item.is c.loop-labels.invariant.labels

pub loop-labels-preserved : goal.loop-labels-preserved
loop-labels-preserved c =
    let told = held_in c.args.sources.now.entries.items in
    record {
      texts = c.in_ok-push_label.ensures.texts;
      held = c.in_ok-push_label.ensures.told;
      listed = c.in_ok-push_label.ensures.listed;
      labels = rest_stands (told c.as_str-name.result.now) c.loop-labels.labels.now c.in-len1-up.len_at_least c.loop-labels.invariant.labels;
      found = labels_more told (told_parts c.args.told.now) c.as_str-name.result.now c.loop-labels.labels.now c.placed-item.result c.loop-labels.self.found.found
          c.push_label.new.self.found.found _ c.in-len1-up.len_at_least c.placed-item.is c.in_ok-push_label.ensures.found c.loop-labels.invariant.found;
    }
