-- A text has the tokens that it has, and bytes that are no text have none.
use Rattle.std.proofs.Common.{ap, ◌∙◌}
use Rattle.std.proofs.lemmas.Result.{IfOk-weaker}
use Rattle.std.specs.List.{list_any}
use Rattle.json.specs.Lex.{tokens}
use Rattle.input_forms.specs.Scanned.{is_files_key}
use Rattle.input_forms.proofs.KeyLemmas.{named_so, unnamed}
use Rattle.input_forms.proofs.object.names_files.Goals as goal

pub returns-in-Ok : goal.returns-in-Ok
returns-in-Ok c =
    IfOk-weaker c.has_files_key.result _ _
    (λ it is. is ∙ ap (λ text. list_any is_files_key (tokens text)) c.in-Ok.ensures.cases.0 ∙ named_so c.args.bytes.now c.in-Ok.ensures.cases.1)
    c.has_files_key.ensures

pub returns-in-Err : goal.returns-in-Err
returns-in-Err c = unnamed c.args.bytes.now c.in-Err.ensures.cases.0
