use Rattle.std.proofs.Common.{[], ◌∷◌, ◌++◌, ◌∙◌, ap, sym, arith, append_assoc}
use Rattle.oxc_plan.proofs.SweepLemmas.{range_more}
use Rattle.oxc_plan.proofs.sweep.open_before.Goals as goal

pub loop-to-preserved : goal.loop-to-preserved
loop-to-preserved c =
    let kept = c.loop-to.invariant in
    record {
      opened =
          c.in_ok-push.ensures.items ∙ ap (λ l. l ++ c.loop-to.to ∷ []) kept.opened ∙ append_assoc c.args.active.now.items _ (c.loop-to.to ∷ [])
          ∙ ap (λ l. c.args.active.now.items ++ l) (sym (range_more c.args.next c.loop-to.to kept.from));
      from = omega (arith, kept.from);
      upto = omega (arith, c.loop-to-test.true);
    }
