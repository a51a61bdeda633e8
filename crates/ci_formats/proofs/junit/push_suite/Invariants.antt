use Rattle.std.proofs.Common.{◌≡◌, ◌++◌, map, string_bytes, take}
use Rattle.std.specs.List.{flat_map}
use Rattle.ci_formats.specs.Junit.{numbered, numbered_text}
use Rattle.ci_formats.proofs.junit.push_suite.Given as goal

abbrev pub invariant-loop-case : goal.invariant-loop-case
invariant-loop-case l = string_bytes l.out ≡ string_bytes l.initial.out ++ flat_map numbered_text (map numbered (take l.case-index l.cases))
