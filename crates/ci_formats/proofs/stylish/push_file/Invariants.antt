use Rattle.std.proofs.Common.{◌≡◌, ◌++◌, map, string_bytes, take}
use Rattle.std.specs.List.{flat_map}
use Rattle.ci_formats.specs.Finding.{finding_parts}
use Rattle.ci_formats.specs.Stylish.{row_text}
use Rattle.ci_formats.proofs.stylish.push_file.Given as goal

abbrev pub invariant-loop-finding : goal.invariant-loop-finding
invariant-loop-finding l = string_bytes l.out ≡ string_bytes l.initial.out ++ flat_map (row_text l.widths) (map (λ it. finding_parts it.now) (take l.finding-index l.own))
