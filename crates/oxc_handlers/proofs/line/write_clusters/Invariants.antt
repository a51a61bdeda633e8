use Rattle.std.proofs.Common.{◌≡◌, ◌+◌, ◌*◌, ◌≤◌, ◌++◌, length, string_bytes}
use Rattle.std.specs.List.{flat_map, concat}
use Rattle.unicode_segmentation.specs.Iter.{graphemes_left}
use Rattle.oxc_plan.specs.Width.{led}
use Rattle.oxc_handlers.specs.Texts.{shown_from, shown_text}
use Rattle.oxc_handlers.proofs.line.write_clusters.Given as goal

-- the clusters that are left are drawn next, and there is room for them
abbrev pub invariant-loop-cluster : goal.invariant-loop-cluster
invariant-loop-cluster l =
    let rest = graphemes_left l.cluster-iterator in
    record {
      can_next : (goal.iterator-loop-cluster).can_next l.cluster-iterator;
      is_finite : (goal.iterator-loop-cluster).is_finite l.cluster-iterator;
      drawn : string_bytes l.out ++ shown_from l.tabs l.pen (flat_map led rest) ≡ string_bytes l.initial.out ++ shown_text l.tabs l.text;
      room : l.pen.column + 18 * length (concat rest) ≤ 18 * length l.text;
    }
