use Rattle.std.proofs.Common.{Some, string_bytes}
use Rattle.std.proofs.lemmas.Map.Text.{btree_map_updates_text}
use Rattle.lsp_server.specs.Documents.{document_of}
use Rattle.lsp_server.proofs.DocumentLemmas.{only_at}
use Rattle.lsp_server.proofs.server.Server.insert.Goals as goal

pub returns-clause-only : goal.returns-clause-only
returns-clause-only c =
    only_at (string_bytes c.args.uri) (Some c.args.document) (document_of c.args.self.now) _
    (btree_map_updates_text (string_bytes c.args.uri) c.args.self.now.documents c.insert.new.self _ c.in_ok-insert.ensures.updates)
