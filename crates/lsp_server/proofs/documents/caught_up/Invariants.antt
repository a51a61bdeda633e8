-- The changes so far are made.
use Rattle.std.proofs.Common.{◌≡◌, drop}
use Rattle.client_text.proofs.ChangeLemmas.{AreMade}
use Rattle.lsp_server.proofs.documents.caught_up.Given as goal

abbrev pub invariant-loop-number : goal.invariant-loop-number
invariant-loop-number l = record {
  made : AreMade l.initial.client.encoding l.initial.client.text l.client.text l.changes (drop l.number l.changes) l.number;
  encoding : l.client.encoding ≡ l.initial.client.encoding;
}
