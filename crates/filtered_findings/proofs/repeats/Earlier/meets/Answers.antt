-- A text that is kept.
use Rattle.std.proofs.Common.{ap, ◌∙◌}
use Rattle.std.specs.BTreeSet.{contains_text}
use Rattle.filtered_findings.specs.Repeats.{seen_in}
use Rattle.filtered_findings.proofs.RepeatLemmas.{kept_text}
use Rattle.filtered_findings.proofs.repeats.Earlier.meets.Goals as goal

pub returns-clause-value : goal.returns-clause-value
unfolding seen_in
returns-clause-value c = c.contains-is.ensures ∙ ap (contains_text c.args.self.now.texts) (c.as_str.ensures.value ∙ c.in_ok-text.ensures)

pub returns-clause-kept : goal.returns-clause-kept
returns-clause-kept c = kept_text c.args.self.now.texts c.insert.new.self c.in_ok-text.text _ c.in_ok-insert.ensures.updates c.in_ok-text.ensures
