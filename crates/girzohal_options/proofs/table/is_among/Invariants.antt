-- The names that are left decide.
use Rattle.std.proofs.Common.{◌≡◌, length, map}
use Rattle.std.specs.List.{list_any}
use Rattle.std.specs.Str.{bytes_eq}
use Rattle.girzohal_options.proofs.table.is_among.Given as goal

abbrev pub invariant-loop-rest : goal.invariant-loop-rest
invariant-loop-rest l = list_any (λ known. bytes_eq known l.name) (map (λ it. it.now) l.rest) ≡ list_any (λ known. bytes_eq known l.name) (map (λ it. it.now) l.names)

abbrev pub decreases-loop-rest : goal.decreases-loop-rest
decreases-loop-rest l = length l.rest
