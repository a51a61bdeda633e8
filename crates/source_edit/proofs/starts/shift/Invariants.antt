use Rattle.std.proofs.Common.{◌≡◌, ◌+◌, ◌-◌, ◌++◌, map, take, drop}
use Rattle.source_edit.proofs.starts.shift.Given as goal

-- those before the place are moved, and the others are as they were
abbrev pub invariant-loop-start : goal.invariant-loop-start
invariant-loop-start l =
    l.starts ≡ map (λ start. start - l.lost + l.won) (take l.start-index l.initial.starts) ++ drop l.start-index l.initial.starts
