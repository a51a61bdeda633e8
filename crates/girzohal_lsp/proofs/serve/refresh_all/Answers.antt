use Rattle.std.proofs.Common.{rules, ◌≡◌, ◌∙◌, refl, string_bytes, subst}
use Rattle.lsp_server.specs.Documents.{document_of}
use Rattle.girzohal_lsp.specs.Served.{IsRefreshed, Refreshes}
use Rattle.girzohal_lsp.proofs.ServedLemmas.{all_looked_at, none_added, none_yet, one_more}
use Rattle.girzohal_lsp.proofs.serve.refresh_all.Goals as goal

pub loop-uri-init : goal.loop-uri-init
loop-uri-init c = record {
  so_far = none_yet c.args.kept.now.asked c.args.kept.now.log.now c.args.uris.now c.args.server.now c.args.answers.now.items;
  none = refl;
  phase = refl;
}

pub loop-uri-preserved : goal.loop-uri-preserved
loop-uri-preserved c =
    let asked = c.args.kept.now.asked in
    let log = c.args.kept.now.log.now in
    let uri = c.uri-item.result in
    let mid = c.loop-uri.server in
    let new = c.refresh.new.server in
    let told = c.in_ok-told.told in
    let same : c.as_str.result.now ≡ string_bytes uri = search rules in
    let refreshes : Refreshes asked log (string_bytes uri) mid new told = record {
      phase = c.in_ok-told.ensures.phase;
      agreed = c.in_ok-told.ensures.agreed;
      shows = subst (λ u. IsRefreshed asked log mid.agreed u (document_of mid u) (document_of mid) (document_of new) told) same c.in_ok-told.ensures.shown;
    } in
    record {
      so_far = one_more asked log c.args.uris.now c.loop-uri.uri-index uri c.args.server.now mid new c.args.answers.now.items c.loop-uri.answers.items c.push_some.new.list.items told
          c.loop-uri-test.true c.uri-item.is refreshes c.in_ok-push_some.ensures c.loop-uri.invariant.so_far;
      none = none_added c.loop-uri.answers.items c.push_some.new.list.items told c.in_ok-push_some.ensures c.in_ok-told.ensures.none ∙ c.loop-uri.invariant.none;
      phase = c.in_ok-told.ensures.phase ∙ c.loop-uri.invariant.phase;
    }

pub returns-clause-shows : goal.returns-clause-shows
returns-clause-shows c =
    all_looked_at c.args.kept.now.asked c.args.kept.now.log.now c.args.uris.now c.loop-uri.uri-index c.args.server.now c.loop-uri.server c.args.answers.now.items c.loop-uri.answers.items c.loop-uri-test.false
    c.loop-uri.invariant.so_far
