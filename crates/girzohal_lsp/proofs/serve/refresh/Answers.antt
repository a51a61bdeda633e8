-- The document that is looked up is open, and what is found stands in its text.
use Rattle.std.proofs.Common.{rules, ◌≡◌, All, Option, Some, sym, subst}
use Rattle.lsp_server.specs.Seen.{StandIn}
use Rattle.source_store.specs.Named.{path_in}
use Rattle.source_store.specs.declared.named.Spelling.TheVariants.{Uri}
use Rattle.lsp_server.specs.Documents.{document_of}
use Rattle.lsp_server.specs.Told.{ShowsAs}
use Rattle.lsp_server.specs.Views.{OpenView}
use Rattle.girzohal_lsp.specs.Found.{ShowsAt}
use Rattle.girzohal_lsp.specs.Served.{IsRefreshed}
use Rattle.girzohal_lsp.proofs.ServedLemmas.{refreshed, shows_only}
use Rattle.girzohal_lsp.proofs.serve.refresh.Goals as goal

pub returns-clause-shown : goal.returns-clause-shown
returns-clause-shown c =
    let uri = c.args.uri.now in
    let agreed = c.args.server.now.agreed in
    let old = document_of c.args.server.now in
    let new = document_of c.show.new.self in
    let document : OpenView = c.in-Some.document.now in
    let found = c.in_ok-found.found.items in
    let told = c.in_ok-told.told in
    let known : old uri ≡ Some document = search rules in
    let text : c.as_str.result.now ≡ document.client.text = search rules in
    let finds = subst (λ t. ShowsAt c.args.kept.now.asked c.args.kept.now.log.now (path_in Uri uri) t found) text c.in_ok-found.ensures.shown in
    let stand = subst (λ t. All (StandIn t) found) text c.in_ok-found.ensures.stand in
    let shows = subst (λ (o : Option OpenView). ShowsAs agreed uri found o old new told) known c.in_ok-told.ensures.shown in
    subst (λ (o : Option OpenView). IsRefreshed c.args.kept.now.asked c.args.kept.now.log.now agreed uri o old new told) (sym known)
    (refreshed c.args.kept.now.asked c.args.kept.now.log.now agreed uri document old new told found finds stand shows)

pub returns-clause-none : goal.returns-clause-none
returns-clause-none c =
    let uri = c.args.uri.now in
    let agreed = c.args.server.now.agreed in
    let old = document_of c.args.server.now in
    let new = document_of c.show.new.self in
    let document : OpenView = c.in-Some.document.now in
    let known : old uri ≡ Some document = search rules in
    shows_only agreed uri c.in_ok-found.found.items document old new c.in_ok-told.told
    (subst (λ (o : Option OpenView). ShowsAs agreed uri c.in_ok-found.found.items o old new c.in_ok-told.told) known c.in_ok-told.ensures.shown)
