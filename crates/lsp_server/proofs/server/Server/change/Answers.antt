-- The document of the URI changes, and the others stay.
use Rattle.std.proofs.Common.{◌≡◌, ℤ, w32, Option, Some, is_some, refl, sym, ap, subst}
use Rattle.std.proofs.lemmas.Int.{to_z-of_z}
use Rattle.std.proofs.lemmas.Map.Text.{btree_map_updates_text}
use Rattle.lsp_server.specs.Documents.{document_of}
use Rattle.lsp_server.specs.Told.{IsChanged, IsTextChanged}
use Rattle.lsp_server.specs.Views.{OpenView}
use Rattle.lsp_server.proofs.ToldLemmas.{changed_told, if_ok, on_err, stays}
use Rattle.lsp_server.proofs.server.Server.change.Goals as goal

pub returns-clause-told : goal.returns-clause-told
returns-clause-told c =
    let uri = c.args.uri.now in
    let next : OpenView = c.change.new.self in
    let found = c.in-Some.ensures.value in
    let agreed = c.args.self.now.agreed in
    let changes = c.args.changes.now in
    let document : OpenView = c.in-Some.document.now in
    let old = document_of c.args.self.now in
    let new = document_of (record c.args.self.now { documents = c.get_mut.follows.lender next }) in
    let known : old uri ≡ Some document = sym found in
    let writes = btree_map_updates_text uri c.args.self.now.documents (c.get_mut.follows.lender next) (Some next) ((c.get_mut.follows.holds next).3 (ap is_some (sym found))) in
    if_ok c.change.result
    (λ told is. subst (λ (o : Option OpenView). IsChanged agreed uri c.args.version changes o old new (Some told)) (sym known)
    (changed_told agreed uri c.args.version changes document next old new told known writes
    (subst (λ (v : ℤ). IsTextChanged agreed uri v changes document next told) (to_z-of_z w32 c.args.version c.ranges.version) is)))
    c.change.ensures.changed

pub returns-clause-err : goal.returns-clause-err
returns-clause-err c =
    let uri = c.args.uri.now in
    let next : OpenView = c.change.new.self in
    let found = c.in-Some.ensures.value in
    let old = document_of c.args.self.now in
    let new = document_of (record c.args.self.now { documents = c.get_mut.follows.lender next }) in
    let known : old uri ≡ Some c.in-Some.document.now = sym found in
    let writes = btree_map_updates_text uri c.args.self.now.documents (c.get_mut.follows.lender next) (Some next) ((c.get_mut.follows.holds next).3 (ap is_some (sym found))) in
    on_err c.change.result
    (λ same. record { phase = refl; agreed = refl; documents = stays uri c.in-Some.document.now next old new known same writes })
    c.change.ensures.err
