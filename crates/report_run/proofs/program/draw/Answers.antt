-- What was shown is what the whole input is.
use Rattle.report_run.proofs.RunLemmas.{shown_means}
use Rattle.report_run.specs.Run.{device}
use Rattle.report_run.proofs.program.draw.Goals as goal

pub returns-in-Whole-clause-means : goal.returns-in-Whole-clause-means
returns-in-Whole-clause-means g c =
    let shows = rw c.deref.ensures.value at c.show.ensures.shows in
    shown_means c.show.result c.args.look (device g.I.Source.left g.I.Source.faults c.args.input.now c.read_all.new.input) _ c.in-Whole.bytes.items
    c.in-Whole.ensures.says.1 c.in-Whole.ensures.says.2 c.in-Whole.ensures.says.0 shows
