use Rattle.finding_summaries.proofs.RankLemmas.{counted_more, each_more, none_counted, none_each, tallied_all}
use Rattle.finding_summaries.proofs.ranking.tallied.Goals as goal

pub loop-name-init : goal.loop-name-init
loop-name-init c = (none_counted c.new-counts.result c.new-counts.ensures.empty, none_each c.new-each.result.items c.new-each.ensures.items)

pub loop-name-preserved : goal.loop-name-preserved
loop-name-preserved c = (
  counted_more c.loop-name.counts c.count_once.new.counts c.args.names.now c.loop-name.name-index _ c.loop-name-test.true c.in_ok-count_once.ensures.counted c.loop-name.invariant.0,
  each_more c.loop-name.counts c.args.names.now c.loop-name.each.items c.count_once.new.each.items c.loop-name.name-index _ c.loop-name-test.true c.in_ok-count_once.ensures.each c.loop-name.invariant.0 c.loop-name.invariant.1,
)

pub returns : goal.returns
returns c =
    tallied_all c.loop-name.counts c.args.names.now c.loop-name.each.items c.deref.result.now c.loop-name.name-index c.loop-name-test.false c.loop-name.invariant.0 c.loop-name.invariant.1 c.deref.ensures.value
    c.rows_of.result c.rows_of.ensures
