use Rattle.std.proofs.Common.{◌≡◌, ◌+◌, map, length}
use Rattle.excerpt_texts.specs.Lines.{line_parts}
use Rattle.line_reports.specs.Told.{told_from}
use Rattle.line_reports.proofs.texts.told_at.Given as goal

abbrev pub invariant-loop-lines : goal.invariant-loop-lines
invariant-loop-lines l = record {
  value : told_from l.count l.text (map line_parts l.lines) ≡ told_from 0 l.text (map line_parts l.initial.lines);
  within : l.count + length l.lines ≡ length l.initial.lines;
}

abbrev pub decreases-loop-lines : goal.decreases-loop-lines
decreases-loop-lines l = length l.lines
