use Rattle.std.proofs.Common.{Bool, List, ap, ◌∙◌}
use Rattle.finding_filters.specs.Tokens.{step_first}
use Rattle.finding_filters.proofs.TokenLemmas.{first_is_taken, first_taken, others_taken}
use Rattle.finding_filters.proofs.tokens.taken.Goals as goal

pub loop-rest-preserved : goal.loop-rest-preserved
loop-rest-preserved c =
    let test = c.loop-rest.invariant.0 in
    let rest = c.loop-rest.rest.now in
    let text = c.args.text.now in (
      first_taken rest test,
      c.in_ok-row-2.ensures ∙ ap (λ (row : List Bool). step_first rest text row) (c.deref.ensures.value ∙ c.loop-rest.invariant.1) ∙ first_is_taken rest test text,
      others_taken rest test c.in-len1-up.len_at_least ∙ c.loop-rest.invariant.2,
    )
