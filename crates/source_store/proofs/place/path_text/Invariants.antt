use Rattle.std.proofs.Common.{◌≡◌, ◌++◌, map, drop, string_bytes}
use Rattle.source_store.specs.Place.{path_of}
use Rattle.source_store.proofs.place.path_text.Given as goal

-- the parts that are left come next
abbrev pub invariant-loop-part : goal.invariant-loop-part
invariant-loop-part l = string_bytes l.path ++ path_of (map (λ part. part.now) (drop l.part-index l.parts)) ≡ path_of (map (λ part. part.now) l.parts)
