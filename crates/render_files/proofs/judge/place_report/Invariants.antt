-- All positions so far have offsets, the first label so far that is reversed is known, and where there is none, the labels placed and
-- those to come are all labels.
use Rattle.std.proofs.Common.{◌≡◌, ◌++◌, drop, map, None}
use Rattle.std.specs.Option.{option_or}
use Rattle.codespan.specs.Texts.{text_of}
use Rattle.render_files.specs.Given.{given_label}
use Rattle.render_files.specs.Refusal.{first_at, outside, reversed}
use Rattle.render_files.specs.Shown.{placed}
use Rattle.render_files.proofs.judge.place_report.Given as goal

abbrev pub invariant-loop-at : goal.invariant-loop-at
invariant-loop-at l = record {
  unchanged : l.offsets ≡ l.initial.offsets;
  outside : first_at (outside (text_of l.offsets l.report.file) l.place) l.at (map given_label (drop l.at l.report.labels.items))
      ≡ first_at (outside (text_of l.offsets l.report.file) l.place) 0 (map given_label l.report.labels.items);
  reversed : option_or l.reversed (first_at (reversed (text_of l.offsets l.report.file) l.place) l.at (map given_label (drop l.at l.report.labels.items)))
      ≡ first_at (reversed (text_of l.offsets l.report.file) l.place) 0 (map given_label l.report.labels.items);
  placed : l.reversed ≡ None → l.spans.items ++ map (placed (text_of l.offsets l.report.file)) (map given_label (drop l.at l.report.labels.items))
      ≡ map (placed (text_of l.offsets l.report.file)) (map given_label l.report.labels.items);
}
