use Rattle.std.proofs.Common.{None}
use Rattle.std.proofs.lemmas.Map.Text.{btree_map_updates_text}
use Rattle.lsp_server.specs.Documents.{document_of}
use Rattle.lsp_server.proofs.DocumentLemmas.{only_at}
use Rattle.lsp_server.proofs.server.Server.close.Goals as goal

pub returns-clause-told : goal.returns-clause-told
returns-clause-told c = (
  only_at c.args.uri.now None (document_of c.args.self.now) _
      (btree_map_updates_text c.args.uri.now c.args.self.now.documents c.remove-text.new.self _ c.remove-text.ensures.updates),
  c.in_ok-params.ensures,
)
