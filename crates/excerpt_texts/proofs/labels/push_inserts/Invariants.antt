use Rattle.std.proofs.Common.{◌≡◌, ◌++◌, map, length}
use Rattle.std.specs.List.{filter_map}
use Rattle.excerpt_texts.specs.Labels.{drawn_parts, insert}
use Rattle.excerpt_texts.proofs.labels.push_inserts.Given as goal

abbrev pub invariant-loop-texts : goal.invariant-loop-texts
invariant-loop-texts l = let made = insert (map (λ line. line.now) l.lines) in
    map drawn_parts l.all.items ++ filter_map made l.texts ≡ map drawn_parts l.initial.all.items ++ filter_map made l.initial.texts

abbrev pub decreases-loop-texts : goal.decreases-loop-texts
decreases-loop-texts l = length l.texts
