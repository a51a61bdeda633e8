use Rattle.std.proofs.Common.{lit<}
use Rattle.oxc_handlers.proofs.LinesLemmas.{first_cut, uncut_lines, several, alone}
use Rattle.oxc_handlers.proofs.text_lines.first_mode.Goals as goal

pub returns-in-Some : goal.returns-in-Some
returns-in-Some c =
    let cut = c.in-Some.ensures.byte (lit< tt) (λ w o f. f) in
    several c.args.text.now c.in-Some.field-0.0.now c.in-Some.field-0.1.now (first_cut c.args.text.now c.in-Some.field-0.0.now c.in-Some.field-0.1.now cut.2 cut.0 cut.1)

pub returns-in-None : goal.returns-in-None
returns-in-None c = alone c.args.text.now (uncut_lines c.args.text.now (c.in-None.ensures.byte (lit< tt) (λ w o f. f)))
