use Rattle.std.proofs.Common.{◌≡◌, ◌++◌, string_bytes, take}
use Rattle.std.specs.List.{flat_map}
use Rattle.ci_formats.specs.Junit.{own_cases, suite_of}
use Rattle.ci_formats.proofs.junit.push_suites.Given as goal

abbrev pub invariant-loop-name : goal.invariant-loop-name
invariant-loop-name l = string_bytes l.out ≡ string_bytes l.initial.out ++ flat_map (λ name. suite_of name.now (own_cases l.cases name)) (take l.name-index l.name-items)
