-- The text of a log is read as the log that is meant, and has the reports that were written.
use Rattle.std.proofs.Common.{map, arith}
use Rattle.std.proofs.lemmas.List.{length-map}
use Rattle.std.proofs.lemmas.Str.{IsUtf8-string_bytes}
use Rattle.render_files.specs.Given.{given_report}
use Rattle.sarif_writing.proofs.StandingLemmas.{all_stand}
use Rattle.finding_laws.proofs.LogLemmas.ReadBack.{read_back}
use Rattle.finding_laws.proofs.LogLemmas.ReportBack.{come_back}
use Rattle.finding_laws.proofs.LogLemmas.Small.{reports_small}
use Rattle.finding_laws.proofs.logs.written_log.Goals as goal

pub returns-clause-read : goal.returns-clause-read
returns-clause-read c =
    let files = c.args.files.now in
    let reports = map given_report c.args.reports.now in
    let stand = all_stand files reports c.in_ok-text.ensures.cause in
    read_back c.args.tool.now files reports _ (omega (arith, length-map c.args.reports.now given_report))
    (reports_small files reports c.look_at.ensures.few c.look_at.ensures.sources stand) (IsUtf8-string_bytes c.in_ok-text.text) c.in_ok-text.ensures.text

pub returns-clause-reports : goal.returns-clause-reports
returns-clause-reports c =
    let files = c.args.files.now in
    let reports = map given_report c.args.reports.now in
    come_back _ c.args.tool.now files reports c.look_at.ensures.sources (all_stand files reports c.in_ok-text.ensures.cause) (returns-clause-read c)
