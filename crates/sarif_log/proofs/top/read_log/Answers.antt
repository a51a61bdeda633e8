-- The answer of the value is the answer of the input.
use Rattle.std.proofs.Common.{ap, Err}
use Rattle.sarif_log.proofs.AnswerLemmas.{said_of, unread_says}
use Rattle.sarif_log.proofs.top.read_log.Goals as goal

pub returns : goal.returns
returns c = said_of c.args.bytes.now c.without_mark-text.result.now _ c.read_value.result c.without_mark-text.ensures c.in-Ok.ensures.ok.0 c.in-Ok.ensures.ok.1 c.read_value.ensures

pub returns-in-Err : goal.returns-in-Err
returns-in-Err c = unread_says c.args.bytes.now c.without_mark-text.result.now c.in-Err.e c.unread.result c.without_mark-text.ensures (λ same. c.in-Err.ensures.invalid (ap Err same)) c.unread.ensures.invalid c.unread.ensures.other
