-- The report has no float, and isn't nested deep.
use Rattle.std.proofs.Common.{◌≡◌, ◌≤◌, ◌∙◌, Some, ap, false, map, subst, sym}
use Rattle.std.specs.Option.{option_copied}
use Rattle.serde_json.specs.Data.{depth}
use Rattle.serde_json.specs.View.{view}
use Rattle.serde_json.specs.Written.{compact_text, has_float}
use Rattle.ci_formats.specs.Finding.{finding_parts}
use Rattle.ci_formats.proofs.PlainLemmas.{no_float, shallow}
use Rattle.ci_formats.proofs.gitlab.gitlab_text.Goals as goal

pub returns-clause-text : goal.returns-clause-text
returns-clause-text c =
    let whole : has_float (view c.in_ok-report.report) ≡ false = ap has_float c.in_ok-report.ensures ∙ no_float (option_copied c.args.tool) (map finding_parts c.args.findings.now) in
    c.in_ok-text.ensures.text whole ∙ ap compact_text c.in_ok-report.ensures

pub returns-clause-reads_back : goal.returns-clause-reads_back
returns-clause-reads_back c =
    c.in_ok-text.ensures.reads_back (subst (λ it. depth it ≤ 127) (sym c.in_ok-report.ensures) (shallow (option_copied c.args.tool) (map finding_parts c.args.findings.now))) ∙ ap Some c.in_ok-report.ensures
