-- One character after another.
use Rattle.std.proofs.Common.{◌<◌, length, arith}
use Rattle.std.proofs.lemmas.List.{get_or_read}
use Rattle.excerpt_rows.proofs.HunkLemmas.{flag_is, left_end, left_more}
use Rattle.excerpt_rows.proofs.hunk.unmarked.Goals as goal

pub loop-k-preserved : goal.loop-k-preserved
loop-k-preserved c =
    let text = c.args.text.now in
    let k = c.loop-k.k in
    let within : k < length text = omega arith in
    left_more c.args.marks.now text k c.index-text-k.result c.is_skipped.result c.loop-k.left.items c.push_unless.new.left.items _ within
    (get_or_read text k c.index-text-k.result within c.index-text-k.is 0)
    (flag_is c.loop-m.flags.items c.args.marks.now k c.loop-m.m-index c.index-text-k.result c.index.result.now c.is_skipped.result c.index.ensures c.loop-m-test.false
    (c.loop-m.invariant.each k c.index.result.now within) c.is_skipped.ensures)
    c.in_ok-push_unless.ensures c.loop-k.invariant

pub returns : goal.returns
returns c = left_end c.args.marks.now c.args.text.now c.loop-k.left.items _ c.loop-k.k c.loop-k-test.false c.loop-k.invariant
