-- The names so far, and of those to come the new ones.
use Rattle.std.proofs.Common.{◌∙◌, ◌+◌, ap, drop, map, subst, sym}
use Rattle.ci_formats.specs.Finding.{finding_parts}
use Rattle.ci_formats.specs.Files.{Knows, with_name}
use Rattle.ci_formats.proofs.FilesLemmas.{all_gathered, gathered, knows_none, none_gathered, now_of, with_step}
use Rattle.ci_formats.proofs.files.names_of.Goals as goal

pub loop-finding-init : goal.loop-finding-init
loop-finding-init c =
    let all = map finding_parts c.args.findings.now in (
      ap (λ l. gathered (map now_of l) all) c.new-names.ensures.items ∙ none_gathered all,
      subst (λ l. Knows c.new-known.result (map now_of l)) (sym c.new-names.ensures.items) (knows_none c.new-known.result c.new-known.ensures.empty),
    )

pub loop-finding-preserved : goal.loop-finding-preserved
loop-finding-preserved c =
    let names = map now_of c.loop-finding.names.items in
    let rest = map finding_parts (drop (c.loop-finding.finding-index + 1) c.args.findings.now) in (
      ap (λ l. gathered l rest) (c.in_ok-push_new.ensures.names ∙ ap (with_name names) c.as_str.ensures.value)
          ∙ with_step names c.args.findings.now c.loop-finding.finding-index c.finding-item.result c.loop-finding-test.true c.finding-item.is
          ∙ c.loop-finding.invariant.0,
      c.in_ok-push_new.ensures.known,
    )

pub returns : goal.returns
returns c =
    sym (all_gathered (map now_of c.loop-finding.names.items) c.args.findings.now c.loop-finding.finding-index c.loop-finding-test.false) ∙ c.loop-finding.invariant.0
