use Rattle.std.proofs.Common.{◌≡◌, ◌+◌, ◌++◌, ◌<◌, length, map, All}
use Rattle.std.specs.List.{filter}
use Rattle.source_edit.specs.Starts.{starts_between}
use Rattle.text_places.proofs.EndLemmas.{is_start}
use Rattle.source_edit.proofs.starts.starts_in.Given as goal

-- what was found, and what the search still has to give
abbrev pub invariant-loop-at : goal.invariant-loop-at
invariant-loop-at l =
    (goal.iterator-loop-at).can_next l.at-iterator ×
    (goal.iterator-loop-at).is_finite l.at-iterator ×
    (l.starts.items ++ filter (is_start ((l.before ++ l.insert) ++ l.behind)) (map (λ at. length l.before + at + 1) l.at-iterator)
    ≡ starts_between ((l.before ++ l.insert) ++ l.behind) (length l.before) (length l.before + length l.insert)) ×
    All (λ at. at < length l.insert) l.at-iterator
