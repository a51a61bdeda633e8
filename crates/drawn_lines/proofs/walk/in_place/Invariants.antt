-- What is drawn and what is to come is all.
use Rattle.std.proofs.Common.{◌≡◌, [], length, map, drop}
use Rattle.found_reports.specs.Listed.{held_in}
use Rattle.line_reports.specs.Pieces.{read_parts}
use Rattle.report_texts.specs.Runs.{drawn_on}
use Rattle.drawn_lines.specs.Lines.{in_place}
use Rattle.drawn_lines.specs.Counts.{count_of}
use Rattle.drawn_lines.specs.Walk.{counted_to, reports_placed, walked}
use Rattle.drawn_lines.proofs.walk.in_place.Given as goal

abbrev pub invariant-loop-rest : goal.invariant-loop-rest
invariant-loop-rest l = record {
  drawn : l.drawings ≡ drawn_on l.asked l.sources.entries.items;
  follows : drop l.walk.len l.walk.first.now ≡ l.rest;
  walked :
      walked l.asked (held_in l.sources.entries.items) l.walk (map read_parts l.rest)
      ≡ in_place l.asked (held_in l.sources.entries.items) l.initial.walk.most [] (map (λ line. line.now) l.initial.walk.from.now) (map (λ line. line.now) l.initial.walk.from.now) (map (λ line. line.now) l.initial.walk.shown.now)
      (map read_parts l.initial.rest);
  counted :
      counted_to l.asked (held_in l.sources.entries.items) l.walk (map read_parts l.rest)
      ≡ count_of l.asked (reports_placed l.asked (held_in l.sources.entries.items) [] (map (λ line. line.now) l.initial.walk.from.now) (map (λ line. line.now) l.initial.walk.from.now) (map read_parts l.initial.rest));
}

abbrev pub decreases-loop-rest : goal.decreases-loop-rest
decreases-loop-rest l = length l.rest
