-- The lines so far and those to come are all lines.
use Rattle.std.proofs.Common.{◌≡◌, ◌++◌, drop, string_bytes}
use Rattle.lsp_server.specs.Files.{seen}
use Rattle.lsp_server.specs.Messages.{label_lines}
use Rattle.lsp_server.proofs.messages.push_lines.Given as goal

abbrev pub invariant-loop-label : goal.invariant-loop-label
invariant-loop-label l =
    string_bytes l.out ++ label_lines (seen l.file) l.message (drop l.label-index l.labels) ≡ string_bytes l.initial.out ++ label_lines (seen l.file) l.message l.labels
