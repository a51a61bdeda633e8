-- Those before are there; those left are still to come.
use Rattle.std.proofs.Common.{◌≡◌, ◌++◌, map, length}
use Rattle.std.specs.List.{filter_map}
use Rattle.json_forms.specs.Finding.{beside_view}
use Rattle.json_reports.specs.Reports.{said_as}
use Rattle.json_reports.proofs.words.push_said.Given as goal

abbrev pub invariant-loop-sides : goal.invariant-loop-sides
invariant-loop-sides l = map (λ line. line.now) l.lines.items ++ filter_map (said_as l.kind) (map beside_view l.sides) ≡ map (λ line. line.now) l.initial.lines.items ++ filter_map (said_as l.kind) (map beside_view l.initial.sides)

abbrev pub decreases-loop-sides : goal.decreases-loop-sides
decreases-loop-sides l = length l.sides
