use Rattle.std.proofs.Common.{◌≡◌, ◌++◌, map, string_bytes, take}
use Rattle.std.specs.List.{flat_map}
use Rattle.ci_formats.specs.Checkstyle.{error_element}
use Rattle.ci_formats.specs.Finding.{finding_parts}
use Rattle.ci_formats.proofs.checkstyle.push_file.Given as goal

abbrev pub invariant-loop-finding : goal.invariant-loop-finding
invariant-loop-finding l = string_bytes l.out ≡ string_bytes l.initial.out ++ flat_map error_element (map (λ it. finding_parts it.now) (take l.finding-index l.own))
