use Rattle.std.proofs.Common.{◌≡◌, ◌++◌, string_bytes, drop}
use Rattle.oxc_handlers.specs.Marks.{AreOrdered}
use Rattle.oxc_handlers.proofs.MarksLemmas.{drawn_marks}
use Rattle.oxc_handlers.proofs.marks.write_marks.Given as goal

abbrev pub invariant-loop-m : goal.invariant-loop-m
invariant-loop-m l = record {
  ordered : AreOrdered l.before (drop l.m-index l.marks);
  ahead : string_bytes l.out ++ drawn_marks l.setting l.before (drop l.m-index l.marks) ≡ string_bytes l.initial.out ++ drawn_marks l.setting 0 l.marks;
}
