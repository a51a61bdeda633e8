-- The next shorter end.
use Rattle.std.proofs.Common.{◌<◌, ◌∙◌, arith}
use Rattle.std.proofs.lemmas.List.{get_or_read}
use Rattle.excerpt_rows.proofs.SearchLemmas.{next_ends, next_less, next_most}
use Rattle.excerpt_rows.proofs.search.next.Goals as goal

pub loop-end-preserved : goal.loop-end-preserved
loop-end-preserved c =
    let core = c.args.core.now in
    let borders = c.args.borders.now in
    let end = c.loop-end.end in
    let kept = c.loop-end.invariant in
    let some : 0 < end = omega arith in
    record {
      less = next_less core borders c.args.matched end c.args.c c.requires.borders some kept.less;
      ends = next_ends core borders c.args.matched end c.requires.borders some kept.less kept.ends;
      most = λ other a same.
          next_most core borders c.args.matched end c.args.c other c.requires.borders some kept.less kept.ends
          (λ here. c.loop-end-test.true (get_or_read core end c.index-core-end.result (omega arith) c.index-core-end.is 0 ∙ here)) a same (kept.most other a same);
    }
