use Rattle.std.proofs.Common.{◌∙◌, map, string_bytes, subst}
use Rattle.girzohal_lsp.specs.Served.{AddsRefreshed}
use Rattle.girzohal_lsp.proofs.ServedLemmas.{none_added}
use Rattle.girzohal_lsp.proofs.serve.show_all.Goals as goal

pub returns-clause-looks : goal.returns-clause-looks
returns-clause-looks c =
    let kept = c.args.kept.now in
    let log = kept.log.now in
    record {
      log = log;
      is_read = c.requires.log;
      fault = c.in_ok-fault.fault;
      tells = c.in_ok-fault.ensures.tells;
      shows = subst (λ before. AddsRefreshed kept.asked log (map string_bytes c.args.uris.now) c.args.server.now c.refresh_all.new.server before c.refresh_all.new.answers.items)
          c.in_ok-push_some.ensures c.in_ok-refresh_all.ensures.shows;
    }

pub returns-clause-none : goal.returns-clause-none
returns-clause-none c =
    c.in_ok-refresh_all.ensures.none
    ∙ none_added c.args.answers.now.items c.push_some.new.list.items c.in_ok-fault.fault c.in_ok-push_some.ensures c.in_ok-fault.ensures.none
