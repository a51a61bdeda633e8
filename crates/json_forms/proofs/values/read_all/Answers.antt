-- The value that is read: the first of those that are left.
use Rattle.std.proofs.Common.{map}
use Rattle.json_forms.specs.Read.{reading_view, refusal_view}
use Rattle.json_forms.proofs.ValueLemmas.{none_here, read_here, refused_here}
use Rattle.json_forms.proofs.values.read_all.Goals as goal

pub returns-in-Err-clause-err : goal.returns-in-Err-clause-err
returns-in-Err-clause-err c =
    refused_here c.args.forms.now c.args.values.now c.loop-value.value-index c.value-item.result (refusal_view c.in-Err.refused) c.loop-value-test.true c.value-item.is
    c.loop-value.invariant.none_so_far c.in-Err.ensures.err

pub loop-value-preserved : goal.loop-value-preserved
loop-value-preserved c = record {
  read_so_far = read_here c.args.forms.now c.args.values.now c.loop-value.value-index c.value-item.result (map reading_view c.args.readings.now.items) (map reading_view c.loop-value.readings.items)
      (map reading_view c.keep.new.readings.items) (reading_view c.in-Ok.reading) c.loop-value-test.true c.value-item.is c.loop-value.invariant.read_so_far c.in_ok-keep-in-Ok.ensures c.in-Ok.ensures.ok;
  none_so_far = none_here c.args.forms.now c.args.values.now c.loop-value.value-index c.value-item.result c.loop-value-test.true c.value-item.is c.loop-value.invariant.none_so_far c.in-Ok.ensures.none;
}
