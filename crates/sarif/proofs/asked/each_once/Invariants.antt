-- The names so far, each once, and these are known.
use Rattle.std.proofs.Common.{◌≡◌, [], map, string_bytes, take}
use Rattle.sarif.specs.Asked.{Knows, and_names}
use Rattle.sarif.proofs.asked.each_once.Given as goal

abbrev pub invariant-loop-name : goal.invariant-loop-name
invariant-loop-name l = record {
  once : map string_bytes l.once.items ≡ and_names [] (map string_bytes (take l.name-index l.names));
  known : Knows l.known (map string_bytes l.once.items);
}
