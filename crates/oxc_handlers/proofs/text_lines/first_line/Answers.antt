use Rattle.std.proofs.Common.{lit<}
use Rattle.oxc_handlers.proofs.LinesLemmas.{first_cut, uncut_lines}
use Rattle.oxc_handlers.proofs.text_lines.first_line.Goals as goal

pub returns-in-Some-clause-lines : goal.returns-in-Some-clause-lines
returns-in-Some-clause-lines c =
    let cut = c.in-Some.ensures.byte (lit< tt) (λ w o f. f) in
    first_cut c.args.text.now c.in-Some.line.now c.in-Some.rest.now cut.2 cut.0 cut.1

pub returns-in-None-clause-lines : goal.returns-in-None-clause-lines
returns-in-None-clause-lines c = uncut_lines c.args.text.now (c.in-None.ensures.byte (lit< tt) (λ w o f. f))
