use Rattle.std.proofs.Common.{◌≡◌, ◌≤◌, map, length}
use Rattle.found_reports.specs.Fixes.{change_view}
use Rattle.line_reports.specs.Fixes.{changes_of, hunks, suggested_parts}
use Rattle.line_reports.proofs.FixLemmas.{after}
use Rattle.line_reports.proofs.fixes.changes.Given as goal

abbrev pub invariant-loop-left : goal.invariant-loop-left
invariant-loop-left l = let text = l.source.text.now in record {
  changes : after (map change_view l.changes.items) (changes_of text (hunks (map suggested_parts l.left))) ≡ changes_of text (hunks (map suggested_parts l.rows));
  within : length l.left ≤ length l.rows;
}

abbrev pub decreases-loop-left : goal.decreases-loop-left
decreases-loop-left l = length l.left
