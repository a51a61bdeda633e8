-- No primary label stands before.
use Rattle.std.proofs.Common.{◌≡◌, ◌+◌, drop, option_map}
use Rattle.sarif_writing.specs.Written.{primary_place}
use Rattle.sarif_writing.proofs.places.head_place.Given as goal

abbrev pub invariant-loop-place : goal.invariant-loop-place
invariant-loop-place l = primary_place l.labels ≡ option_map (λ n. l.place + n) (primary_place (drop l.place l.labels))
