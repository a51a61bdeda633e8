use Rattle.std.proofs.Common.{◌+◌, drop, subst}
use Rattle.client_text.specs.Changes.{IsFault}
use Rattle.client_text.proofs.ChangeLemmas.{made_faulty}
use Rattle.text_places.specs.declared.encoding.Encoding.{Encoding}
use Rattle.lsp_server.specs.Views.{open_view}
use Rattle.lsp_server.proofs.EditLemmas.{moved_more, next_change}
use Rattle.lsp_server.proofs.documents.edited.Goals as goal

pub returns-in-Some-clause-edit : goal.returns-in-Some-clause-edit
returns-in-Some-clause-edit c =
    let before = open_view c.args.client c.in_ok-found.found.items in
    let now = open_view c.loop-number.client c.loop-number.found.items in
    let all = c.args.changes.now in
    let i = c.loop-number.number in
    let change = c.index-changes-number.result in
    let next = next_change before now all i change c.loop-number.invariant c.loop-number-test.true c.index-changes-number.is in
    let faulty = rw c.in-Some.is at c.in_ok-edit_one.ensures.faulty in
    let fault = subst (λ (e : Encoding). IsFault e c.loop-number.client.text change c.in-Some.fault) c.loop-number.invariant.encoding faulty in
    made_faulty c.args.client.encoding c.args.client.text c.loop-number.client.text all (drop (i + 1) all) change i c.in-Some.fault next.texts fault

pub loop-number-preserved : goal.loop-number-preserved
loop-number-preserved c =
    let before = open_view c.args.client c.in_ok-found.found.items in
    let now = open_view c.loop-number.client c.loop-number.found.items in
    let after = open_view c.edit_one.new.client c.edit_one.new.found.items in
    let all = c.args.changes.now in
    let i = c.loop-number.number in
    let change = c.index-changes-number.result in
    let next = next_change before now all i change c.loop-number.invariant c.loop-number-test.true c.index-changes-number.is in
    let made = rw c.in-None.is at c.in_ok-edit_one.ensures.made in
    let holds = rw c.in-None.is at c.in_ok-edit_one.ensures.holds in
    moved_more before now after all (drop (i + 1) all) change i next made holds
