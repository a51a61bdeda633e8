-- One character after another.
use Rattle.std.proofs.Common.{◌≡◌, ◌<◌, ◌++◌, ◌∙◌, ap, sym, length, slice_index, take, arith, length-append, List, ℕ}
use Rattle.std.proofs.lemmas.List.{get_or_read}
use Rattle.excerpt_rows.specs.Expansion.{expanded, shown}
use Rattle.excerpt_rows.proofs.ExpansionLemmas.{expanded_more, expanded_none, shown_few}
use Rattle.excerpt_rows.proofs.expansion.expanded.Goals as goal

pub loop-c-init : goal.loop-c-init
loop-c-init c = record {
  text = c.new-printed.ensures.text ∙ sym (expanded_none c.args.rule);
  measured = c.new-printed.ensures.measured;
  few = omega (arith, ap length c.new-printed.ensures.text);
}

pub loop-c-preserved : goal.loop-c-preserved
loop-c-preserved c =
    let row = c.args.row.now in
    let at = c.loop-c.c-index in
    let old = c.loop-c.printed.text.items in
    let within : at < length row = omega arith in
    let here : c.c-item.result ≡ slice_index row at = get_or_read row at c.c-item.result within c.c-item.is 0 in
    record {
      text = c.in_ok-show.ensures.text ∙ ap (λ (t : List ℕ). t ++ shown c.args.rule t c.c-item.result) c.loop-c.invariant.text
          ∙ ap (λ d. expanded c.args.rule (take at row) ++ shown c.args.rule (expanded c.args.rule (take at row)) d) here ∙ sym (expanded_more c.args.rule row at within);
      measured = c.in_ok-show.ensures.measured;
      few = omega (arith, c.loop-c.invariant.few, ap length c.in_ok-show.ensures.text, length-append old (shown c.args.rule old c.c-item.result), shown_few c.args.rule old c.c-item.result);
    }
