use Rattle.std.proofs.Common.{Ok, ap}
use Rattle.source_edit.proofs.AllLemmas.{back_from, said_is, latest_is, nothing_is}
use Rattle.source_edit.proofs.edit_text.EditText.undo.Goals as goal

pub returns-clause-said : goal.returns-clause-said
returns-clause-said c = ap Ok (said_is c.args.self.now c.step_back.new.self c.step_back.result c.step_back.ensures)

pub returns-clause-latest : goal.returns-clause-latest
returns-clause-latest c some = latest_is c.args.self.now c.step_back.new.self c.step_back.result c.step_back.ensures some

pub returns-clause-reverts : goal.returns-clause-reverts
returns-clause-reverts c before change e = (back_from c.args.self.now c.step_back.new.self before change c.step_back.result c.step_back.ensures e).1

pub returns-clause-none : goal.returns-clause-none
returns-clause-none c e = nothing_is c.args.self.now c.step_back.new.self c.step_back.result c.step_back.ensures e
