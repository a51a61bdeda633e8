use Rattle.std.proofs.Common.{◌∙◌, string_bytes}
use Rattle.oxc_plan.specs.declared.marks.MarkCells.{MarkCells}
use Rattle.oxc_handlers.proofs.MarksLemmas.{drawn_marks_more, ordered_more}
use Rattle.oxc_handlers.proofs.marks.write_marks.Goals as goal

pub loop-m-preserved : goal.loop-m-preserved
loop-m-preserved c =
    let none : MarkCells = record { label = 0; start = 0; end = 0; bar = 0 } in
    let setting = c.args.setting.now in
    record {
      ordered = (ordered_more c.loop-m.before c.args.marks.now c.loop-m.m-index none c.loop-m-test.true c.loop-m.invariant.ordered).1;
      ahead = rw c.in_ok-write_mark.ensures (drawn_marks_more setting (string_bytes c.loop-m.out) c.loop-m.before c.args.marks.now c.loop-m.m-index none c.loop-m-test.true ∙ c.loop-m.invariant.ahead);
    }
