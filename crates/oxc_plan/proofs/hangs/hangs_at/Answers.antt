use Rattle.std.proofs.Common.{◌∙◌, ◌<◌, get_or, ap, length, map, sym, arith}
use Rattle.oxc_plan.specs.Plan.{hang_of, ordered_view}
use Rattle.oxc_plan.proofs.HangsLemmas.{from_run, hang_in_run, hang_less, hang_more, run_next}
use Rattle.oxc_plan.proofs.hangs.hangs_at.Goals as goal
use Rattle.oxc_plan.proofs.hangs.hangs_at.Goals.{in-Some+in_ok-push-in-Some, in-None}

pub loop-i-preserved : goal.loop-i-preserved
loop-i-preserved c =
    let labels = map ordered_view c.args.labels.now in
    let places = c.args.places.now in
    let i = c.loop-i.i in
    let run = c.run_at-run.result in
    let kept = c.loop-i.invariant in
    let lt : i < length places = c.loop-i-test.true in
    let next = run_next labels places c.loop-i.run i run c.requires lt kept.run c.run_at-run.ensures in
    let same = ap (λ l. hang_of labels l (get_or places i 0)) (from_run places run) ∙ hang_in_run labels places run (get_or places i 0) (omega (arith, next.0.from, lt)) next.1 in
    elim c.match-hang_of.branch [
      | in-Some+in_ok-push-in-Some w ↦
          record {
            hangs = rw w.hangs-is (w.in_ok-push-in-Some.ensures.items ∙ hang_more (hang_of labels places) c.loop-i.hangs.items w.in-Some.hang places i 0 lt (sym same ∙ sym c.hang_of.ensures ∙ w.in-Some.is) kept.hangs);
            run = next.0;
          }
      | in-None w ↦
          record {
            hangs = rw w.hangs-is (hang_less (hang_of labels places) c.loop-i.hangs.items places i 0 lt (sym same ∙ sym c.hang_of.ensures ∙ w.in-None.is) kept.hangs);
            run = next.0;
          }
    ]
