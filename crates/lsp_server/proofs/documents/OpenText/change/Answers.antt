-- The findings stand in the text after the changes, and the document that was is the spare one, once they are made in it too.
use Rattle.std.proofs.Common.{ap, ◌∙◌, sym, subst, IfSome}
use Rattle.client_text.specs.Document.{Document}
use Rattle.lsp_server.specs.Edits.{Holds}
use Rattle.lsp_server.specs.Views.{IsSpareOf}
use Rattle.lsp_server.proofs.EditLemmas.{spare_of}
use Rattle.lsp_server.proofs.documents.OpenText.change.Goals as goal

pub invariant_of-self-in-Made : goal.invariant_of-self-in-Made
invariant_of-self-in-Made c =
    let client : Document = c.self.inside.client in
    let before : Document = c.replace-before.result in
    let copy = c.in_ok-copy.copy in
    let next = c.in-Made.next in
    let now = c.replace-before.new.dest in
    let is_next = c.replace-before.ensures.after in
    let is_before = c.replace-before.ensures.value in
    let holds = rw c.in-Made.is at c.in_ok-refusal.ensures.holds in
    let edit = rw c.in-Made.is at c.in_ok-refusal.ensures.edit in
    let text = ap (λ (d : Document). d.text) c.in_ok-copy.ensures ∙ ap (λ (d : Document). d.text) (sym is_before) in
    let encoding = ap (λ (d : Document). d.encoding) c.in_ok-copy.ensures ∙ ap (λ (d : Document). d.encoding) (sym is_before) in
    let spare = spare_of before copy next c.deref.result.now c.in-Made.found.items c.args.changes.now c.caught_up.result text encoding edit c.caught_up.ensures.made c.caught_up.ensures.encoding in
    (subst (λ (d : Document). Holds d c.in-Made.found.items) (sym is_next) holds, subst (λ (d : Document). IfSome c.caught_up.result (IsSpareOf d)) (sym is_next) spare)
