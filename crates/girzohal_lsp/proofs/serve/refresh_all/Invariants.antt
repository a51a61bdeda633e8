-- The documents so far, and that no request is answered by what was told of them.
use Rattle.std.proofs.Common.{◌≡◌}
use Rattle.std.specs.List.{flat_map}
use Rattle.lsp_server.specs.Session.{answered_by}
use Rattle.girzohal_lsp.proofs.ServedLemmas.{AreSoFar}
use Rattle.girzohal_lsp.proofs.serve.refresh_all.Given as goal

abbrev pub invariant-loop-uri : goal.invariant-loop-uri
invariant-loop-uri l = record {
  so_far : AreSoFar l.kept.asked l.kept.log.now l.uris l.uri-index l.initial.server l.server l.initial.answers.items l.answers.items;
  none : flat_map answered_by l.answers.items ≡ flat_map answered_by l.initial.answers.items;
  phase : l.server.phase ≡ l.initial.server.phase;
}
