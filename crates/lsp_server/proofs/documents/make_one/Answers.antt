use Rattle.std.proofs.Common.{List, subst}
use Rattle.client_text.specs.Changes.{AllChange}
use Rattle.client_text.specs.declared.change.Change.{Change}
use Rattle.lsp_server.proofs.EditLemmas.{only_change}
use Rattle.lsp_server.proofs.documents.make_one.Goals as goal

pub returns-clause-text : goal.returns-clause-text
returns-clause-text c =
    let old = c.args.client.now in
    let new = c.change.new.self in
    only_change old.encoding old.text new.text c.args.change.now
    (subst (λ (l : List Change). AllChange old.encoding old.text l new.text) c.requires c.in_ok-change.ensures.done.made)
