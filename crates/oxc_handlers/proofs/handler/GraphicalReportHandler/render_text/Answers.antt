use Rattle.oxc_handlers.specs.Report.{name_in, view_parts}
use Rattle.oxc_handlers.proofs.ReportLemmas.{no_text, not_no_text}
use Rattle.oxc_handlers.proofs.handler.GraphicalReportHandler.render_text.Goals as goal

pub returns-in-Err-clause-cause : goal.returns-in-Err-clause-cause
returns-in-Err-clause-cause c =
    no_text (view_parts c.args.view.now) (record { bytes = c.args.scanner.now.input; name = name_in (view_parts c.args.view.now) }) c.in-Err.valid_up_to c.requires.source c.requires.within c.requires.some c.in-Err.ensures.cases.1

pub returns-in-Err-clause-complete : goal.returns-in-Err-clause-complete
returns-in-Err-clause-complete c =
    λ is. not_no_text (view_parts c.args.view.now) (record { bytes = c.args.scanner.now.input; name = name_in (view_parts c.args.view.now) }) c.in-Err.valid_up_to c.requires.source is c.requires.some c.in-Err.ensures.cases.0
