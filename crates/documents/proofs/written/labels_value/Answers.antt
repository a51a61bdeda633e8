-- One label more, and all of them.
use Rattle.render_files.specs.declared.places.PlaceLabel.{PlaceLabel}
use Rattle.render_files.specs.Given.{given_label}
use Rattle.documents.specs.Written.{IsPlace, label_value}
use Rattle.documents.proofs.WrittenLemmas.{all_hold, all_written, more_written, one_more_holds}
use Rattle.documents.proofs.written.labels_value.Goals as goal

abbrev HasPlace : PlaceLabel → Type 0
HasPlace label = IsPlace label.place

pub loop-label-preserved : goal.loop-label-preserved
loop-label-preserved c = record {
  values = more_written label_value given_label c.args.labels.now c.loop-label.label-index c.label-item.result c.loop-label.values.items c.push.new.self.items c.in_ok-label_value.field-0
      c.loop-label-test.true c.label-item.is c.in_ok-push.ensures.items c.in_ok-label_value.ensures.value c.loop-label.invariant.values;
  ranges = one_more_holds HasPlace c.args.labels.now c.loop-label.label-index c.label-item.result c.loop-label-test.true c.label-item.is c.in_ok-label_value.ensures.ranges c.loop-label.invariant.ranges;
}

pub returns-clause-value : goal.returns-clause-value
returns-clause-value c = all_written label_value given_label c.args.labels.now c.loop-label.label-index c.loop-label.values c.loop-label-test.false c.loop-label.invariant.values

pub returns-clause-ranges : goal.returns-clause-ranges
returns-clause-ranges c = all_hold HasPlace c.args.labels.now c.loop-label.label-index c.loop-label-test.false c.loop-label.invariant.ranges
