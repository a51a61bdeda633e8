-- The spots so far are there, and the others come next.
use Rattle.std.proofs.Common.{◌≡◌, ◌++◌, drop, map}
use Rattle.ci_formats.specs.Finding.{finding_parts}
use Rattle.html_pages.specs.Spots.{spot_parts, spots_from}
use Rattle.html_pages.proofs.spots.spots_of.Given as goal

abbrev pub invariant-loop-at : goal.invariant-loop-at
invariant-loop-at l =
    map spot_parts l.spots.items ++ spots_from l.part l.at (map finding_parts (drop l.at l.findings)) ≡ spots_from l.part 0 (map finding_parts l.findings)
