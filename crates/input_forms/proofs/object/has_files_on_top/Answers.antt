-- What was read is the value of the input, and what can't be read is none.
use Rattle.std.proofs.Common.{◌≡◌, ◌∙◌, ap, sym, false, true, codes, option_and_then}
use Rattle.std.specs.Option.{is_some}
use Rattle.serde_json.specs.Find.{get}
use Rattle.input_forms.specs.Object.{has_files}
use Rattle.input_forms.proofs.JsonLemmas.{json_read, json_unread, some_mapped}
use Rattle.input_forms.proofs.object.has_files_on_top.Goals as goal

pub returns-in-Ok : goal.returns-in-Ok
unfolding has_files
returns-in-Ok c =
    c.is_some.ensures ∙ some_mapped _ c.get.result ∙ ap is_some c.get.ensures
    ∙ sym (ap (λ d. is_some (option_and_then (get (codes "files")) d)) (json_read c.args.text.now _ c.in-Ok.ensures.ok.0 c.in-Ok.ensures.ok.1))

pub returns-in-Err-2 : goal.returns-in-Err-2
unfolding has_files
returns-in-Err-2 c =
    sym (ap (λ d. is_some (option_and_then (get (codes "files")) d))
    (json_unread c.args.text.now (c.in-Err.ensures.err (λ memory. let none : false ≡ true = c.if-is_memory.ensures.1 memory in cc))))
