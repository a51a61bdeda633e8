-- The text so far, and that of what is left.
use Rattle.std.proofs.Common.{◌≡◌, ◌-◌, ◌++◌, length, drop, map, string_bytes}
use Rattle.std.specs.Str.{IsCharBoundary}
use Rattle.sarif.specs.Fill.{filled_from}
use Rattle.sarif.proofs.fill.filled.Given as goal

abbrev pub invariant-loop-at : goal.invariant-loop-at
invariant-loop-at l =
    record {
      boundary : IsCharBoundary l.text l.at;
      value : string_bytes l.out ++ filled_from (map string_bytes l.arguments) 0 (drop l.at l.text) ≡ filled_from (map string_bytes l.arguments) 0 l.text;
    }

abbrev pub decreases-loop-at : goal.decreases-loop-at
decreases-loop-at l = length l.text - l.at
