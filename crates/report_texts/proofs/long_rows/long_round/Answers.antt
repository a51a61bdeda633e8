-- The window that was read.
use Rattle.std.proofs.Common.{◌∙◌, sym}
use Rattle.oxc_windows.proofs.ReadLemmas.{read_known}
use Rattle.report_texts.proofs.LongLemmas.{long_contents}
use Rattle.report_texts.proofs.long_rows.long_round.Goals as goal

pub returns-clause-row : goal.returns-clause-row
returns-clause-row c =
    let known = rw (c.requires.round.before, c.requires.round.after) at (read_known c.args.scanner.now c.args.span c.in-Some.contents (sym c.in_ok-contents.ensures.read.value ∙ c.in-Some.is)) in
    long_contents c.args.most c.args.source.now c.args.scanner.now.input c.args.span c.in-Some.contents c.long_in.result c.requires.source known c.long_in.ensures.row
