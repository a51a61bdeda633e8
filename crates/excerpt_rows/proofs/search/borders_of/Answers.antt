-- One border more.
use Rattle.std.proofs.Common.{sym, ap, ◌∙◌, length, arith}
use Rattle.std.proofs.lemmas.List.{get_or_read, length_push}
use Rattle.excerpt_rows.proofs.SearchLemmas.{border_next, borders_more}
use Rattle.excerpt_rows.proofs.search.borders_of.Goals as goal

pub loop-k-preserved : goal.loop-k-preserved
loop-k-preserved c =
    let core = c.args.core.now in
    let k = c.loop-k.k in
    let kept = c.loop-k.invariant in
    let border = border_next core k c.loop-k.border c.index-core-k.result c.next-border.result kept.border
    (sym (get_or_read core k c.index-core-k.result (omega arith) c.index-core-k.is 0)) c.next-border.ensures in
    record {
      count = ap length c.in_ok-push.ensures.items ∙ length_push c.loop-k.borders.items c.next-border.result ∙ omega (arith, kept.count);
      borders = borders_more core c.loop-k.borders.items c.push.new.self.items k c.next-border.result kept.count c.in_ok-push.ensures.items border kept.borders;
      border = border;
    }
