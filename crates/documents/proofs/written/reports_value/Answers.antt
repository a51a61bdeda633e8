-- One report more, and all of them.
use Rattle.render_files.specs.declared.places.FileReport.{FileReport}
use Rattle.render_files.specs.Given.{given_report}
use Rattle.documents.specs.Written.{HavePlaces, report_value}
use Rattle.documents.proofs.WrittenLemmas.{all_hold, all_written, more_written, one_more_holds}
use Rattle.documents.proofs.written.reports_value.Goals as goal

abbrev HasRange : FileReport → Type 0
HasRange report = HavePlaces (given_report report)

pub loop-report-preserved : goal.loop-report-preserved
loop-report-preserved c = record {
  values = more_written report_value given_report c.args.reports.now c.loop-report.report-index c.report-item.result c.loop-report.values.items c.push.new.self.items c.in_ok-report_value.field-0
      c.loop-report-test.true c.report-item.is c.in_ok-push.ensures.items c.in_ok-report_value.ensures.value c.loop-report.invariant.values;
  ranges = one_more_holds HasRange c.args.reports.now c.loop-report.report-index c.report-item.result c.loop-report-test.true c.report-item.is c.in_ok-report_value.ensures.ranges c.loop-report.invariant.ranges;
}

pub returns-clause-value : goal.returns-clause-value
returns-clause-value c = all_written report_value given_report c.args.reports.now c.loop-report.report-index c.loop-report.values c.loop-report-test.false c.loop-report.invariant.values

pub returns-clause-ranges : goal.returns-clause-ranges
returns-clause-ranges c = all_hold HasRange c.args.reports.now c.loop-report.report-index c.loop-report-test.false c.loop-report.invariant.ranges
