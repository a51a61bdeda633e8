-- What is pushed and what the search still has to give are together the starts.
use Rattle.std.proofs.Common.{◌≡◌, ◌+◌, ◌++◌, ◌<◌, map, length, All}
use Rattle.codespan.specs.Lines.{line_starts_lf}
use Rattle.codespan.proofs.file.line_starts.Given as goal

abbrev pub invariant-loop-at : goal.invariant-loop-at
invariant-loop-at l =
    (goal.iterator-loop-at).can_next l.at-iterator ×
    (goal.iterator-loop-at).is_finite l.at-iterator ×
    (map (λ start. start.0) l.starts.items ++ map (λ at. at + 1) l.at-iterator ≡ line_starts_lf l.source) ×
    All (λ at. at < length l.source) l.at-iterator
