-- The reports of one note more.
use Rattle.found_reports.specs.Listed.{held_in}
use Rattle.line_reports.proofs.AsideLemmas.{mark_head, mark_rest, marks_on}
use Rattle.line_reports.proofs.gathered.Gathered.push_marks.Goals as goal

pub push_mark-requires-clause-asides : goal.push_mark-requires-clause-asides
push_mark-requires-clause-asides c =
    mark_head (held_in c.args.sources.now.entries.items) c.loop-marks.marks.now c.mark-item.result c.in-len1-up.len_at_least c.mark-item.is c.loop-marks.invariant.asides

pub loop-marks-preserved : goal.loop-marks-preserved
loop-marks-preserved c = record {
  texts = c.in_ok-push_mark.ensures.texts;
  held = c.in_ok-push_mark.ensures.told;
  listed = c.in_ok-push_mark.ensures.listed;
  asides = mark_rest (held_in c.args.sources.now.entries.items) c.loop-marks.marks.now c.in-len1-up.len_at_least c.loop-marks.invariant.asides;
  found = marks_on c.args.columns (held_in c.args.sources.now.entries.items) c.loop-marks.marks.now c.mark-item.result c.loop-marks.self.found.found
      c.push_mark.new.self.found.found _ c.in-len1-up.len_at_least c.mark-item.is c.in_ok-push_mark.ensures.found c.loop-marks.invariant.found;
}
