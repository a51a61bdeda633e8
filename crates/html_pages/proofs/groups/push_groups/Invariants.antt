-- What is left comes next.
use Rattle.std.proofs.Common.{◌≡◌, ◌++◌, None, length, map, option_map, string_bytes}
use Rattle.ci_formats.specs.Finding.{finding_parts}
use Rattle.html_pages.specs.Groups.{groups_from}
use Rattle.html_pages.specs.Spots.{spot_parts}
use Rattle.html_pages.proofs.groups.push_groups.Given as goal

abbrev pub invariant-loop-rest : goal.invariant-loop-rest
invariant-loop-rest l =
    string_bytes l.out ++ groups_from l.part (map finding_parts l.findings) (map string_bytes l.drawings) (option_map spot_parts l.before) (map spot_parts l.rest)
    ≡ string_bytes l.initial.out ++ groups_from l.part (map finding_parts l.findings) (map string_bytes l.drawings) None (map spot_parts l.spots)

abbrev pub decreases-loop-rest : goal.decreases-loop-rest
decreases-loop-rest l = length l.rest
