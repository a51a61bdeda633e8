use Rattle.std.proofs.Common.{◌≡◌, ◌++◌, ◌∙◌, ap, map, string_bytes}
use Rattle.std.specs.List.{flat_map}
use Rattle.std.proofs.lemmas.List.{take_all}
use Rattle.ci_formats.specs.Files.{own_parts}
use Rattle.ci_formats.specs.Finding.{finding_parts}
use Rattle.ci_formats.specs.Checkstyle.{file_element, file_with}
use Rattle.ci_formats.proofs.FilesLemmas.{each_file, now_of}
use Rattle.ci_formats.proofs.checkstyle.push_files.Goals as goal

pub returns : goal.returns
returns c =
    let fs = map finding_parts c.args.findings.now in
    let names = c.deref-name-items.result.now in
    let all = ap (flat_map (λ name. file_with name.now (own_parts c.in_ok-files.files name))) (take_all c.loop-name.name-index names c.loop-name-test.false)
    ∙ each_file file_with c.in_ok-files.files fs c.in_ok-files.ensures names ∙ ap (flat_map (file_element fs)) (ap (map now_of) c.deref-name-items.ensures.value ∙ c.in_ok-names.ensures) in
    c.loop-name.invariant ∙ ap (λ l. string_bytes c.args.out.now ++ l) all
