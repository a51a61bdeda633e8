-- The places of a report are those of its labels.
use Rattle.std.proofs.Common.{All, subst}
use Rattle.documents.specs.Written.{IsPlace}
use Rattle.documents.proofs.WrittenLemmas.{report_places}
use Rattle.documents.proofs.written.report_value.Goals as goal

pub returns-clause-ranges : goal.returns-clause-ranges
returns-clause-ranges c =
    report_places c.args.report.now (subst (λ labels. All (λ label. IsPlace label.place) labels) c.deref.ensures.value c.in_ok-put_labels.ensures.ranges)
