use Rattle.std.proofs.Common.{◌≡◌, ◌+◌, ◌*◌, ◌≤◌, fold, length}
use Rattle.std.specs.Str.{chars, IsUtf8}
use Rattle.std.specs.Str.Iter.{chars_rest}
use Rattle.oxc_plan.specs.Width.{led, with_lead, moved}
use Rattle.oxc_plan.proofs.columns.over_cluster.Given as goal

-- what is left of the cluster leads to the same pen, and there is room for it
abbrev pub invariant-loop-c : goal.invariant-loop-c
invariant-loop-c l =
    let rest = chars_rest l.c-iterator in
    record {
      can_next : (goal.iterator-loop-c).can_next l.c-iterator;
      is_finite : (goal.iterator-loop-c).is_finite l.c-iterator;
      text : IsUtf8 rest;
      ahead : fold (moved l.tabs) l.pen (with_lead l.lead (chars rest)) ≡ fold (moved l.tabs) l.fn.pen (led l.cluster);
      room : l.pen.column + l.lead + 16 * length (chars rest) ≤ l.fn.pen.column + 18 * length l.cluster;
    }
