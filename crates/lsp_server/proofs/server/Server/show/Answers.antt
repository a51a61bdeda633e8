-- The document of the URI shows other findings, and the others stay.
use Rattle.std.proofs.Common.{◌≡◌, Option, Some, is_some, refl, sym, ap, subst}
use Rattle.std.proofs.lemmas.Map.Text.{btree_map_updates_text}
use Rattle.lsp_server.specs.Documents.{document_of}
use Rattle.lsp_server.specs.Told.{ShowsAs}
use Rattle.lsp_server.specs.Views.{OpenView}
use Rattle.lsp_server.proofs.ToldLemmas.{if_ok, on_err, shown_told, stays}
use Rattle.lsp_server.proofs.server.Server.show.Goals as goal

pub returns-clause-shown : goal.returns-clause-shown
returns-clause-shown c =
    let uri = c.args.uri.now in
    let next : OpenView = c.show.new.self in
    let found = c.in-Some.ensures.value in
    let old = document_of c.args.self.now in
    let new = document_of (record c.args.self.now { documents = c.get_mut.follows.lender next }) in
    let known : old uri ≡ Some c.in-Some.document.now = sym found in
    let writes = btree_map_updates_text uri c.args.self.now.documents (c.get_mut.follows.lender next) (Some next) ((c.get_mut.follows.holds next).3 (ap is_some (sym found))) in
    if_ok c.show.result
    (λ told is. subst (λ (o : Option OpenView). ShowsAs c.args.self.now.agreed uri c.args.found.items o old new told) (sym known)
    (shown_told c.args.self.now.agreed uri c.args.found.items c.in-Some.document.now next old new told known writes is))
    c.show.ensures.shown

pub returns-clause-err : goal.returns-clause-err
returns-clause-err c =
    let uri = c.args.uri.now in
    let next : OpenView = c.show.new.self in
    let found = c.in-Some.ensures.value in
    let old = document_of c.args.self.now in
    let new = document_of (record c.args.self.now { documents = c.get_mut.follows.lender next }) in
    let known : old uri ≡ Some c.in-Some.document.now = sym found in
    let writes = btree_map_updates_text uri c.args.self.now.documents (c.get_mut.follows.lender next) (Some next) ((c.get_mut.follows.holds next).3 (ap is_some (sym found))) in
    on_err c.show.result
    (λ same. record { phase = refl; agreed = refl; documents = stays uri c.in-Some.document.now next old new known same writes })
    c.show.ensures.err
