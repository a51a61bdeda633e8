use Rattle.std.proofs.Common.{◌≡◌, map, length}
use Rattle.excerpts.specs.Body.{block_of}
use Rattle.line_reports.specs.Drawings.{PlacedStand, drawings_parts, no_drawings, shown_from}
use Rattle.line_reports.proofs.drawings.drawings_of.Given as goal

abbrev pub invariant-loop-rest : goal.invariant-loop-rest
invariant-loop-rest l = let lines = map (λ line. line.now) l.lines in record {
  stand : PlacedStand l.source.text.now (drawings_parts l.drawings).labels;
  shown : shown_from l.source.text.now l.aim lines (drawings_parts l.drawings) l.flags_left (map block_of l.rest) ≡ shown_from l.source.text.now l.aim lines no_drawings l.flags (map block_of l.blocks);
}

abbrev pub decreases-loop-rest : goal.decreases-loop-rest
decreases-loop-rest l = length l.rest
