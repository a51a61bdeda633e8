use Rattle.std.proofs.Common.{◌≡◌, ◌++◌, ◌∙◌, ap, map, string_bytes, sym}
use Rattle.std.specs.List.{flat_map}
use Rattle.std.proofs.lemmas.List.{take_all}
use Rattle.ci_formats.specs.Finding.{finding_parts}
use Rattle.ci_formats.specs.Junit.{own_cases, suite_element, suite_of}
use Rattle.ci_formats.proofs.CaseLemmas.{each_suite, some_suites}
use Rattle.ci_formats.proofs.FilesLemmas.{now_of}
use Rattle.ci_formats.proofs.junit.push_suites.Goals as goal

pub returns : goal.returns
returns c =
    let fs = map finding_parts c.args.findings.now in
    let names = c.deref-name-items.result.now in
    let all = ap (flat_map (λ name. suite_of name.now (own_cases c.in_ok-cases.cases name))) (take_all c.loop-name.name-index names c.loop-name-test.false)
    ∙ each_suite c.in_ok-cases.cases fs c.in_ok-cases.ensures names ∙ ap (flat_map (suite_element fs)) (ap (map now_of) c.deref-name-items.ensures.value ∙ c.in_ok-names.ensures)
    ∙ sym (some_suites c.args.findings.now (sym c.is_empty.ensures ∙ c.if-is_empty.false)) in
    c.loop-name.invariant ∙ ap (λ l. string_bytes c.args.out.now ++ l) all
