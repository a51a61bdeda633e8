use Rattle.std.proofs.Common.{arith}
use Rattle.oxc_handlers.specs.Report.{view_parts}
use Rattle.report_reader.proofs.ReportLaw.{reads_back, title_is_text}
use Rattle.report_reader.proofs.laws.drawings_read_back.Goals as goal

pub returns : goal.returns
returns c =
    reads_back c.args._width c.args.tabs (view_parts c.args.view.now)
    (record {
      tab_most = omega (arith, c.get-stop.ensures.width, c.get-stop.ensures.most);
      title = title_is_text c.args.tabs (view_parts c.args.view.now) c.is_text.ensures c.code_is_text.ensures;
      short = c.source_fits.ensures;
    })
