use Rattle.std.proofs.Common.{◌≡◌, ◌++◌, ◌∷◌, [], map, length}
use Rattle.found_reports.specs.Fixes.{change_view, fix_view}
use Rattle.line_reports.proofs.fixes.push_each.Given as goal

abbrev pub invariant-loop-changes : goal.invariant-loop-changes
invariant-loop-changes l =
    map fix_view l.fixes.items ++ map (λ change. change ∷ []) (map change_view l.changes)
    ≡ map fix_view l.initial.fixes.items ++ map (λ change. change ∷ []) (map change_view l.initial.changes)

abbrev pub decreases-loop-changes : goal.decreases-loop-changes
decreases-loop-changes l = length l.changes
