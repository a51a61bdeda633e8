use Rattle.std.proofs.Common.{◌+◌, drop, ◌∙◌, subst}
use Rattle.client_text.specs.Changes.{Changes}
use Rattle.client_text.proofs.ChangeLemmas.{made_at, made_more}
use Rattle.text_places.specs.declared.encoding.Encoding.{Encoding}
use Rattle.lsp_server.proofs.documents.caught_up.Goals as goal

pub loop-number-preserved : goal.loop-number-preserved
loop-number-preserved c =
    let before = c.args.client in
    let now = c.loop-number.client in
    let next = c.make_one.new.client in
    let all = c.args.changes.now in
    let i = c.loop-number.number in
    let change = c.index-changes-number.result in
    let made = subst (λ (e : Encoding). Changes e now.text change next.text) c.loop-number.invariant.encoding c.in-Ok.ensures.text in
    record {
      made = made_more before.encoding before.text now.text next.text all (drop (i + 1) all) change i
          (made_at before.encoding before.text now.text all i change c.loop-number.invariant.made c.loop-number-test.true c.index-changes-number.is) made;
      encoding = c.make_one.ensures.encoding ∙ c.loop-number.invariant.encoding;
    }
