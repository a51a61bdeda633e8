use Rattle.std.proofs.Common.{map, take}
use Rattle.finding_summaries.specs.Ranking.{AreEach, HasCounted}
use Rattle.finding_summaries.proofs.ranking.tallied.Given as goal

-- the map has the numbers so far, and the list each name once
abbrev pub invariant-loop-name : goal.invariant-loop-name
invariant-loop-name l =
    HasCounted l.counts (map (λ it. it.now) (take l.name-index l.names)) × AreEach (map (λ it. it.now) l.each.items) (map (λ it. it.now) (take l.name-index l.names))
