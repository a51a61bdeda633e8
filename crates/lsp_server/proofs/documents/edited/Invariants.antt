use Rattle.std.proofs.Common.{drop}
use Rattle.lsp_server.specs.Views.{open_view}
use Rattle.lsp_server.proofs.EditLemmas.{AreMoved}
use Rattle.lsp_server.proofs.documents.edited.Given as goal

abbrev pub invariant-loop-number : goal.invariant-loop-number
invariant-loop-number l =
    AreMoved (open_view l.initial.client l.initial.found.items) (open_view l.client l.found.items) l.changes (drop l.number l.changes) l.number
