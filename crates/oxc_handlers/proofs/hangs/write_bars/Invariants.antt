use Rattle.std.proofs.Common.{◌≡◌, ◌++◌, string_bytes, drop}
use Rattle.oxc_handlers.specs.Marks.{AreOrdered}
use Rattle.oxc_handlers.proofs.HangsLemmas.{bars_to}
use Rattle.oxc_handlers.proofs.hangs.write_bars.Given as goal

abbrev pub invariant-loop-mark : goal.invariant-loop-mark
invariant-loop-mark l = record {
  ordered : AreOrdered l.from (drop l.mark-index l.marks);
  ahead : string_bytes l.out ++ bars_to l.setting l.at l.from (drop l.mark-index l.marks) ≡ string_bytes l.initial.out ++ bars_to l.setting l.at 0 l.marks;
}
