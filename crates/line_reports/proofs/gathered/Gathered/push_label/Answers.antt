-- The label stands in what is told of its file.
use Rattle.std.proofs.Common.{subst, sym}
use Rattle.found_reports.specs.Found.{LabelsStand, NamedHeld}
use Rattle.found_reports.specs.Listed.{held_in}
use Rattle.line_reports.specs.Drawings.{placed_parts}
use Rattle.line_reports.specs.Told.{told_parts}
use Rattle.line_reports.proofs.LabelLemmas.{aside_stands}
use Rattle.line_reports.proofs.gathered.Gathered.push_label.Goals as goal

pub push-requires-clause-stand : goal.push-requires-clause-stand
push-requires-clause-stand c =
    subst (λ (file : NamedHeld). LabelsStand file.held c.in_ok-diagnostic.diagnostic.labels) (sym c.in_ok-file.ensures.named)
    (aside_stands (held_in c.args.sources.now.entries.items c.args.name.now) c.in_ok-diagnostic.diagnostic (told_parts c.args.told.now) (placed_parts c.args.placed.now) c.in_ok-diagnostic.ensures c.requires.stands)
