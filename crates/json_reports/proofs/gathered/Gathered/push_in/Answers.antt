use Rattle.found_reports.specs.Found.{file_at}
use Rattle.json_forms.specs.Finding.{finding_view}
use Rattle.json_reports.proofs.SpanLemmas.{labels_stand}
use Rattle.json_reports.proofs.gathered.Gathered.push_in.Goals as goal

pub push-requires-clause-stand : goal.push-requires-clause-stand
push-requires-clause-stand c =
    labels_stand (file_at c.args.self.now.found.files c.args.file).held c.in_ok-diagnostic.diagnostic (finding_view c.args.finding.now) c.in_ok-labels.labels.items
    c.in_ok-diagnostic.ensures c.in_ok-labels.ensures.stand
