use Rattle.std.proofs.Common.{◌≡◌, ◌++◌, ◌∷◌, [], map, drop}
use Rattle.finding_filters.specs.Tokens.{end_of, row_of}
use Rattle.finding_filters.proofs.tokens.ends.Given as goal

-- the characters that are left come next
abbrev pub invariant-loop-character : goal.invariant-loop-character
invariant-loop-character l =
    l.row.items ++ map (λ c. end_of l.ending (c ∷ [])) (drop l.character-index l.text) ≡ row_of (end_of l.ending) l.text
