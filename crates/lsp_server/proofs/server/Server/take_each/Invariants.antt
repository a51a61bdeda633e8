use Rattle.lsp_server.proofs.SessionLemmas.{HasTold}
use Rattle.lsp_server.proofs.server.Server.take_each.Given as goal

abbrev pub invariant-loop-message : goal.invariant-loop-message
invariant-loop-message l = HasTold l.initial.self l.yielded l.self l.answers.items
