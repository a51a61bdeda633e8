-- One more output is made.
use Rattle.std.proofs.Common.{ap, get_or, subst}
use Rattle.girzohal_options.specs.declared.Asked.{Asked}
use Rattle.girzohal_options.specs.declared.OutputForm.TheVariants.{Drawing}
use Rattle.girzohal_options.specs.declared.ThemeChoice.TheVariants.{Auto}
use Rattle.girzohal_run.specs.Run.{IsMadeOf, texts_of}
use Rattle.girzohal_run.specs.declared.each.Wanted.{Wanted}
use Rattle.girzohal_run.proofs.EachLemmas.{more_made}
use Rattle.girzohal_run.proofs.each.make_each.Goals as goal

pub loop-it-preserved : goal.loop-it-preserved
loop-it-preserved g c =
    let d : Wanted = record { to = Drawing; theme = Auto } in
    let it : Wanted = get_or c.args.wanted.now c.loop-it.it-index d in
    let next = ap (λ (a : Asked). record a { to = it.to; theme = it.theme }) c.loop-it.invariant.asked in
    record {
      asked = next;
      made =
          more_made (g.S.Store.told c.args.store.now) c.args.asked.now c.args.bytes.now c.args.wanted.now c.loop-it.it-index d c.loop-it.all.items c.push.new.self.items c.in_ok-made.made c.loop-it-test.true
          c.in-Ok.ensures.items c.loop-it.invariant.made
          (subst (λ a. IsMadeOf (g.S.Store.told c.args.store.now) a (texts_of c.in_ok-made.made) c.args.bytes.now) next c.in_ok-made.ensures.made);
    }
