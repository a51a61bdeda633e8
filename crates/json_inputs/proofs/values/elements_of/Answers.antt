-- What was read is the value of the bytes, and what can't be read is none.
use Rattle.std.proofs.Common.{◌∙◌, ap, sym, Err}
use Rattle.json_inputs.proofs.ValueLemmas.{json_read, unread_none}
use Rattle.json_inputs.proofs.values.elements_of.Goals as goal

pub returns-in-Ok : goal.returns-in-Ok
returns-in-Ok c = c.elements.ensures ∙ sym (json_read c.args.json.now _ c.in-Ok.ensures.ok.0 c.in-Ok.ensures.ok.1)

pub returns-in-Err : goal.returns-in-Err
returns-in-Err c = unread_none c.unread.result _ c.in-Err.e c.args.json.now c.unread.ensures.none c.unread.ensures.invalid (λ same. c.in-Err.ensures.invalid (ap Err same))
