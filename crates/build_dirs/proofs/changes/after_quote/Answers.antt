-- One quote after another.
use Rattle.std.proofs.Common.{refl, sym}
use Rattle.build_dirs.proofs.ChangeLemmas.{is_opened, no_open}
use Rattle.build_dirs.proofs.changes.after_quote.Goals as goal

pub returns-in-Some-clause-says : goal.returns-in-Some-clause-says
returns-in-Some-clause-says c = is_opened 0x27 c.args.text.now c.in-Some.rest.now refl (sym c.in-Some.ensures)

pub returns-in-Some-behind-clause-says : goal.returns-in-Some-behind-clause-says
returns-in-Some-behind-clause-says c = is_opened 0x60 c.args.text.now c.in-Some-behind.rest.now refl (sym c.in-Some-behind.ensures)

pub returns-in-Some-behind-2-clause-says : goal.returns-in-Some-behind-2-clause-says
returns-in-Some-behind-2-clause-says c = is_opened 0x22 c.args.text.now c.in-Some-behind-2.rest.now refl (sym c.in-Some-behind-2.ensures)

pub returns-in-None-clause-says : goal.returns-in-None-clause-says
returns-in-None-clause-says c = no_open c.args.text.now (sym c.in_default.ensures) (sym c.in_default-behind.ensures) (sym c.in-None.ensures)
