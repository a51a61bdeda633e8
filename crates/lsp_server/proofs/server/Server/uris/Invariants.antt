-- The URIs so far and those to come are all.
use Rattle.std.proofs.Common.{◌≡◌, ◌++◌, map, string_bytes}
use Rattle.std.specs.BTreeMap.{keys}
use Rattle.lsp_server.proofs.server.Server.uris.Given as goal

abbrev pub invariant-loop-uri : goal.invariant-loop-uri
invariant-loop-uri l = map string_bytes l.uris.items ++ map string_bytes l.uri-iterator ≡ map string_bytes (keys l.self.documents)
