-- A text has its value, and bytes that are no text have none.
use Rattle.std.proofs.Common.{◌∙◌, ap, sym}
use Rattle.std.proofs.lemmas.Result.{IfErr-weaker, IfOk-weaker}
use Rattle.xml_values.specs.Document.{value_of_body}
use Rattle.xml_values.proofs.DocumentLemmas.{value_read, value_unread}
use Rattle.xml_values.proofs.document.read_xml.Goals as goal

pub returns-in-Err-clause-cause : goal.returns-in-Err-clause-cause
returns-in-Err-clause-cause c = λ refused. value_unread c.args.bytes.now c.in-Err.ensures.cases.0

pub returns-clause-document : goal.returns-clause-document
returns-clause-document c =
    IfOk-weaker c.read_body.result _ _
    (λ it is. value_read c.args.bytes.now c.in_default.ensures.cases.1 ∙ ap value_of_body (sym c.body.ensures) ∙ is)
    c.read_body.ensures.document

pub returns-clause-cause : goal.returns-clause-cause
returns-clause-cause c =
    IfErr-weaker c.read_body.result _ _
    (λ e is. λ refused. value_read c.args.bytes.now c.in_default.ensures.cases.1 ∙ ap value_of_body (sym c.body.ensures) ∙ is refused)
    c.read_body.ensures.cause
