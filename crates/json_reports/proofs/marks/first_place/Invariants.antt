-- The sides before are no places.
use Rattle.std.proofs.Common.{◌≡◌, drop, map}
use Rattle.json_forms.specs.Finding.{beside_view}
use Rattle.json_reports.specs.Marks.{first_place}
use Rattle.json_reports.proofs.marks.first_place.Given as goal

abbrev pub invariant-loop-side : goal.invariant-loop-side
invariant-loop-side l = first_place (map beside_view l.sides) ≡ first_place (map beside_view (drop l.side-index l.sides))
