-- The names before have their sources, each as it was told.
use Rattle.std.proofs.Common.{map, take, string_bytes}
use Rattle.source_store.specs.Given.{AddsAll}
use Rattle.source_store.proofs.gathered.gather_more.Given as goal

abbrev pub invariant-loop-name : goal.invariant-loop-name
invariant-loop-name g l =
    AddsAll (g.S.Store.told l.store) l.spelling (g.L.SourceList.entries l.initial.sources) (g.L.SourceList.entries l.sources) (map string_bytes (take l.name-index l.names))
