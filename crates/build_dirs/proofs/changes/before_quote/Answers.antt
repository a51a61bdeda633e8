-- One quote after another.
use Rattle.std.proofs.Common.{refl, sym}
use Rattle.build_dirs.proofs.ChangeLemmas.{is_closed, no_close}
use Rattle.build_dirs.proofs.changes.before_quote.Goals as goal

pub returns-in-Some-clause-says : goal.returns-in-Some-clause-says
returns-in-Some-clause-says c = is_closed 0x27 c.args.text.now c.in-Some.front.now refl (sym c.in-Some.ensures)

pub returns-in-Some-without_last-clause-says : goal.returns-in-Some-without_last-clause-says
returns-in-Some-without_last-clause-says c = is_closed 0x22 c.args.text.now c.in-Some-without_last.front.now refl (sym c.in-Some-without_last.ensures)

pub returns-in-None-clause-says : goal.returns-in-None-clause-says
returns-in-None-clause-says c = no_close c.args.text.now (sym c.in_default.ensures) (sym c.in-None.ensures)
