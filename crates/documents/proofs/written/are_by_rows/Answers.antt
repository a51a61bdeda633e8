use Rattle.std.proofs.Common.{◌∙◌}
use Rattle.documents.proofs.WrittenLemmas.{by_rows_given}
use Rattle.documents.proofs.written.are_by_rows.Goals as goal

pub returns : goal.returns
returns c = c.reports_by_rows.ensures ∙ by_rows_given c.args.reports.now
