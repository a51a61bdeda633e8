use Rattle.std.proofs.Common.{◌≡◌, [], map, drop}
use Rattle.finding_filters.specs.Texts.{joined_on}
use Rattle.finding_filters.proofs.texts.joined.Given as goal

-- the words that are left come next
abbrev pub invariant-loop-word : goal.invariant-loop-word
invariant-loop-word l = joined_on l.text.items (map (λ word. word.now) (drop l.word-index l.words)) ≡ joined_on [] (map (λ word. word.now) l.words)
