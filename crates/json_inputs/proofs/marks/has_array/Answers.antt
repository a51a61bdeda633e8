-- A text has the tokens that it has, and bytes that are no text have none.
use Rattle.std.proofs.Common.{ap, ◌∙◌}
use Rattle.std.proofs.lemmas.Result.{IfOk-weaker}
use Rattle.json.specs.Lex.{tokens}
use Rattle.json_inputs.specs.Marks.{top_array}
use Rattle.json_inputs.proofs.MarkLemmas.{array_read, array_unread}
use Rattle.json_inputs.proofs.marks.has_array.Goals as goal

pub returns-in-Ok : goal.returns-in-Ok
returns-in-Ok c =
    IfOk-weaker c.object_has.result _ _
    (λ it is. is ∙ ap (λ text. top_array c.args.name.now (tokens text)) c.in-Ok.ensures.cases.0 ∙ array_read c.args.name.now c.args.bytes.now c.in-Ok.ensures.cases.1)
    c.object_has.ensures

pub returns-in-Err : goal.returns-in-Err
returns-in-Err c = array_unread c.args.name.now c.args.bytes.now c.in-Err.ensures.cases.0
