use Rattle.std.proofs.Common.{◌∙◌, ap, filter, map, refl}
use Rattle.std.proofs.lemmas.List.{take_all}
use Rattle.ci_formats.specs.Finding.{finding_parts}
use Rattle.ci_formats.specs.Files.{is_on}
use Rattle.ci_formats.proofs.FilesLemmas.{more_by_file, none_by_file}
use Rattle.ci_formats.proofs.files.by_file.Goals as goal

pub loop-finding-init : goal.loop-finding-init
loop-finding-init c = none_by_file c.new-files.result c.new-files.ensures.empty

pub loop-finding-preserved : goal.loop-finding-preserved
loop-finding-preserved c =
    more_by_file c.loop-finding.files c.put_on.new.files c.args.findings.now c.loop-finding.finding-index c.finding-item.result c.as_str.result _ c.loop-finding-test.true c.finding-item.is
    c.as_str.ensures.value refl c.loop-finding.invariant c.in_ok-put_on.ensures

pub returns : goal.returns
returns c = λ name.
    c.loop-finding.invariant name ∙ ap (λ l. filter (is_on name.now) (map finding_parts l)) (take_all c.loop-finding.finding-index c.args.findings.now c.loop-finding-test.false)
