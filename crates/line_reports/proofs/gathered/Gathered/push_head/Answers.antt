use Rattle.std.proofs.Common.{◌≡◌, ◌++◌, None, true, map, subst}
use Rattle.found_reports.specs.Found.{file_at}
use Rattle.line_reports.specs.Drawings.{placed_parts}
use Rattle.line_reports.specs.Gathered.{mark_parts}
use Rattle.line_reports.specs.Reports.{labels_over, mark_labels}
use Rattle.line_reports.specs.Told.{told_parts}
use Rattle.line_reports.proofs.LabelLemmas.{marked_stands}
use Rattle.line_reports.proofs.gathered.Gathered.push_head.Goals as goal

pub push_fixed-requires-clause-stand : goal.push_fixed-requires-clause-stand
push_fixed-requires-clause-stand c =
    marked_stands (file_at c.args.self.now.found.files c.args.file).held c.args.range.now (map placed_parts c.in_ok-drawings.drawings.labels.items) (map mark_parts c.args.marks.now) c.in_ok-diagnostic.diagnostic (told_parts c.args.group.now.head) c.in_ok-labels.labels.items _
    c.in_ok-diagnostic.ensures
    (subst (λ placed. c.in_ok-labels.labels.items ≡ labels_over None true c.args.range.now (map placed_parts placed) ++ mark_labels (map mark_parts c.args.marks.now)) c.as_slice-3.ensures.value c.in_ok-labels.ensures)
    c.requires.range c.in_ok-drawings.ensures.stand c.requires.marks
