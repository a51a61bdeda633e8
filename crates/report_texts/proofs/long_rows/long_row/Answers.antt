-- One label is a group; the spans of more are those of the labels.
use Rattle.std.proofs.Common.{◌≡◌, ◌∙◌, IfOk, ap, subst, sym}
use Rattle.oxc_plan.specs.Groups.{window_round}
use Rattle.report_texts.specs.LongRows.{long_in, long_row}
use Rattle.report_texts.proofs.LongLemmas.{many_within, one_label, only_one}
use Rattle.report_texts.proofs.long_rows.long_row.Goals as goal

pub returns-in-len1-clause-row : goal.returns-in-len1-clause-row
returns-in-len1-clause-row c =
    let most = c.args.most in
    let source = c.args.source.now in
    subst (λ r. IfOk c.long_round.result (λ row. row ≡ r))
    (ap (λ s. long_in most source (window_round source s)) c.span.ensures.value
    ∙ sym (one_label most source c.label-item.result)
    ∙ ap (long_row most source) (only_one c.args.labels.now c.label-item.result c.in-len1.len_at_least c.in-len1.len_below c.label-item.is))
    c.long_round.ensures.row

pub long_among-requires-clause-within : goal.long_among-requires-clause-within
long_among-requires-clause-within c =
    many_within c.args.scanner.now c.args.source.now c.args.labels.now c.deref.result.now c.requires.source c.requires.group (c.deref.ensures.value ∙ c.in_ok-spans.ensures)
