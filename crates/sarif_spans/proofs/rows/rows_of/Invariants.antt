-- The rows so far, and those of what is left.
use Rattle.std.proofs.Common.{◌≡◌, ◌-◌, ◌≤◌, ◌++◌, length, drop, map}
use Rattle.std.specs.List.{All}
use Rattle.std.specs.Str.{IsCharBoundary}
use Rattle.sarif_spans.specs.Rows.{IsRowOf, rows_from, rows_in}
use Rattle.sarif_spans.proofs.rows.rows_of.Given as goal

abbrev pub invariant-loop-at : goal.invariant-loop-at
invariant-loop-at l =
    let breaks = map (λ it. it.now) l.breaks in
    record {
      within : l.at ≤ length l.text;
      start : IsCharBoundary l.text l.start;
      cut : All (IsRowOf l.text) l.rows.items;
      value : l.rows.items ++ rows_from breaks l.start l.at 0 (drop l.at l.text) ≡ rows_in breaks l.text;
    }

abbrev pub decreases-loop-at : goal.decreases-loop-at
decreases-loop-at l = length l.text - l.at
