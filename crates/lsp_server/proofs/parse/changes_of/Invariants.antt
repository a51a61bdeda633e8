-- The changes so far, and what the values left say.
use Rattle.std.proofs.Common.{◌≡◌, ◌++◌, drop, map, option_map}
use Rattle.serde_json.specs.View.{items_view}
use Rattle.lsp_server.specs.Meant.{change_said, changes_in}
use Rattle.lsp_server.proofs.parse.changes_of.Given as goal

abbrev pub invariant-loop-value : goal.invariant-loop-value
invariant-loop-value l =
    changes_in (items_view l.values) ≡ option_map (λ rest. map change_said l.changes.items ++ rest) (changes_in (items_view (drop l.value-index l.values)))
