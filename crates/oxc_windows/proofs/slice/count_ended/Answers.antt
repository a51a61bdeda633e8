use Rattle.std.proofs.Common.{sym, ◌∙◌, arith}
use Rattle.oxc_windows.proofs.BreaksLemmas.{few_before}
use Rattle.oxc_windows.proofs.SliceLemmas.{count_is, count_row, count_feeds}
use Rattle.oxc_windows.proofs.slice.count_ended.Goals as goal

pub overflow_add-result : goal.overflow_add-result
overflow_add-result c = record {
  fits = omega (arith, count_is c.args.bytes.now c.args.to c.requires.within c.requires.outside, few_before c.args.bytes.now c.args.to, c.endings-line_feeds.ensures.feeds, c.count_stray.ensures, c.requires.within);
}

pub returns-then-has_return : goal.returns-then-has_return
returns-then-has_return c = omega (arith, count_row c.args.bytes.now c.args.to c.requires.within c.requires.outside, c.endings-line_feeds.ensures.feeds, c.count_stray.ensures)

pub returns : goal.returns
returns c =
    omega (
      arith,
      count_row c.args.bytes.now c.args.to c.requires.within c.requires.outside,
      c.endings-line_feeds.ensures.feeds,
      count_feeds c.args.bytes.now c.args.to (sym c.endings-line_feeds.ensures.returns ∙ c.if-has_return.false),
    )
