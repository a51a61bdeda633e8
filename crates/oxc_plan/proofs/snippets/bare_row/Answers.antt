use Rattle.oxc_plan.specs.Rows.{row_view}
use Rattle.oxc_plan.proofs.snippets.bare_row.Goals as goal

pub returns : goal.returns
returns c = λ i. record {
  row = row_view c.args.row.now;
  bars = c.new.ensures.items i;
  marks = c.new-2.ensures.items i;
  hangs = c.new-3.ensures.items i;
  ends = c.new-4.ensures.items i;
}
