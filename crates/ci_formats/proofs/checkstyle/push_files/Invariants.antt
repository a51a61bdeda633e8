use Rattle.std.proofs.Common.{◌≡◌, ◌++◌, string_bytes, take}
use Rattle.std.specs.List.{flat_map}
use Rattle.ci_formats.specs.Files.{own_parts}
use Rattle.ci_formats.specs.Checkstyle.{file_with}
use Rattle.ci_formats.proofs.checkstyle.push_files.Given as goal

abbrev pub invariant-loop-name : goal.invariant-loop-name
invariant-loop-name l = string_bytes l.out ≡ string_bytes l.initial.out ++ flat_map (λ name. file_with name.now (own_parts l.files name)) (take l.name-index l.name-items)
