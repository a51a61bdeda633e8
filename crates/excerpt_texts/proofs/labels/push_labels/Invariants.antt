use Rattle.std.proofs.Common.{◌≡◌, ◌++◌, map, length}
use Rattle.excerpt_blocks.specs.Below.{state_of}
use Rattle.excerpt_texts.specs.Labels.{drawn_label, drawn_parts}
use Rattle.excerpt_texts.proofs.labels.push_labels.Given as goal

abbrev pub invariant-loop-labels : goal.invariant-loop-labels
invariant-loop-labels l = let made = drawn_label (map (λ line. line.now) l.lines) (state_of l.below) in
    map drawn_parts l.all.items ++ map made l.labels ≡ map drawn_parts l.initial.all.items ++ map made l.initial.labels

abbrev pub decreases-loop-labels : goal.decreases-loop-labels
decreases-loop-labels l = length l.labels
