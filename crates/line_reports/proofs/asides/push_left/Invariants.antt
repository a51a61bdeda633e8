use Rattle.std.proofs.Common.{◌≡◌, ◌++◌, map, option_map, length}
use Rattle.std.specs.Option.{is_some}
use Rattle.line_reports.specs.Asides.{aside_parts}
use Rattle.line_reports.proofs.asides.push_left.Given as goal

abbrev pub invariant-loop-asides : goal.invariant-loop-asides
invariant-loop-asides l = l.all.items ++ map is_some (map (option_map aside_parts) l.asides) ≡ l.initial.all.items ++ map is_some (map (option_map aside_parts) l.initial.asides)

abbrev pub decreases-loop-asides : goal.decreases-loop-asides
decreases-loop-asides l = length l.asides
