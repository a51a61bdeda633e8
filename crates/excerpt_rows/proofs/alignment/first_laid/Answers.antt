-- One rule after another.
use Rattle.std.proofs.Common.{◌<◌, subst, ◌∙◌, length, List, ℕ, arith}
use Rattle.std.proofs.lemmas.Option.{slice_get-get_or}
use Rattle.excerpt_rows.specs.declared.expansion.Rule.TheVariants.{Same}
use Rattle.excerpt_rows.specs.Alignment.{IsNotLaid}
use Rattle.excerpt_rows.proofs.AlignmentLemmas.{none_more}
use Rattle.excerpt_rows.proofs.alignment.first_laid.Goals as goal

pub loop-rule-preserved : goal.loop-rule-preserved
loop-rule-preserved c =
    let within : c.loop-rule.rule-index < length c.args.rules.now = omega arith in
    none_more c.args.rules.now c.loop-rule.rule-index _ c.args.printed.now c.args.source.now (slice_get-get_or c.args.rules.now c.loop-rule.rule-index Same within)
    (subst (λ (text : List ℕ). IsNotLaid c.args.printed.now text) (c.as_slice.ensures.value ∙ c.in_ok-text.ensures) (rw c.in_default.is at c.in_ok-shift.ensures)) c.loop-rule.invariant

pub returns : goal.returns
returns c = λ k rule within there. c.loop-rule.invariant k rule (omega (arith, within)) there
