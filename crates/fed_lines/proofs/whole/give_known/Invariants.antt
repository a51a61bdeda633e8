use Rattle.std.proofs.Common.{◌≡◌, ◌++◌, List, ℕ, length}
use Rattle.fed_lines.specs.Held.{held_lines, held_name, held_shapes}
use Rattle.fed_lines.specs.Feed.{IsFed}
use Rattle.fed_lines.proofs.whole.give_known.Given as goal

abbrev pub invariant-loop-cut : goal.invariant-loop-cut
invariant-loop-cut l = (held_shapes l.held ≡ held_shapes l.initial.held) × (
    (whole extra : List (List ℕ)) → IsFed (held_shapes l.initial.held) whole l.initial.cuts.items (held_name l.initial.held) (held_lines l.initial.held ++ extra) → IsFed (held_shapes l.initial.held) whole l.cuts.items (held_name l.held) (held_lines l.held ++ extra))

abbrev pub decreases-loop-cut : goal.decreases-loop-cut
decreases-loop-cut l = length (held_lines l.held)
