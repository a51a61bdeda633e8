use Rattle.std.proofs.Common.{◌≡◌, ◌∙◌, ap, length, map, max, arith}
use Rattle.std.proofs.lemmas.List.{take_all}
use Rattle.oxc_plan.specs.Plan.{gutter_of, row_plan_view}
use Rattle.oxc_plan.proofs.PlanLemmas.{gutter_more}
use Rattle.oxc_plan.proofs.snippets.gutter_of.Goals as goal

pub loop-row-preserved : goal.loop-row-preserved
loop-row-preserved c =
    let most : c.max-most.result ≡ max c.loop-row.most (length c.row-item.result.bars.items) = omega (arith, c.max-most.ensures, c.len.ensures, c.row-item.result.bars.ok.0) in
    gutter_more c.args.rows.now c.loop-row.row-index c.row-item.result c.loop-row.most c.max-most.result c.loop-row-test.true c.loop-row.invariant
    (most ∙ ap (λ row. max c.loop-row.most (length row.bars.items)) c.row-item.is)

pub returns : goal.returns
unfolding gutter_of
returns c = c.loop-row.invariant ∙ ap (λ l. gutter_of (map row_plan_view l)) (take_all c.loop-row.row-index c.args.rows.now c.loop-row-test.false)
