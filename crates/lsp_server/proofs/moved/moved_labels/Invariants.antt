-- The labels that are kept so far, and those to come.
use Rattle.std.proofs.Common.{◌≡◌, ◌++◌, drop}
use Rattle.std.specs.List.{filter_map}
use Rattle.lsp_server.specs.Moved.{moved_label}
use Rattle.lsp_server.proofs.moved.moved_labels.Given as goal

abbrev pub invariant-loop-label : goal.invariant-loop-label
invariant-loop-label l = l.moved.items ++ filter_map (moved_label l.change) (drop l.label-index l.labels) ≡ filter_map (moved_label l.change) l.labels
