-- A part of a line stands behind what came of it.
use Rattle.std.proofs.Common.{refl}
use Rattle.drawn_lines.proofs.HeldLemmas.{part_came}
use Rattle.drawn_lines.proofs.held.HeldLines.with_part.Goals as goal

pub returns-clause-came : goal.returns-clause-came
returns-clause-came c = λ more.
    part_came (record { lines = c.args.self.lines; came = c.args.self.came; tail = c.extend_from_slice.new.self; begun = c.args.self.begun }) c.args.self c.args.part.now more c.requires refl
    c.in_ok-extend_from_slice.ensures.items
