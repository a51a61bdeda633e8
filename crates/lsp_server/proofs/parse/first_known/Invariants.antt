-- None of the names so far is known.
use Rattle.std.proofs.Common.{◌≡◌, drop}
use Rattle.serde_json.specs.View.{items_view}
use Rattle.lsp_server.specs.Meant.{first_known}
use Rattle.lsp_server.proofs.parse.first_known.Given as goal

abbrev pub invariant-loop-name : goal.invariant-loop-name
invariant-loop-name l = first_known (items_view l.names) ≡ first_known (items_view (drop l.name-index l.names))
