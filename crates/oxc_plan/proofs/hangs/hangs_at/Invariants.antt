use Rattle.std.proofs.Common.{◌≡◌, map, take}
use Rattle.std.specs.List.{filter_map}
use Rattle.oxc_plan.specs.Plan.{hang_of, ordered_view}
use Rattle.oxc_plan.proofs.HangsLemmas.{IsRun}
use Rattle.oxc_plan.proofs.hangs.hangs_at.Given as goal

-- the texts of the places so far hang, and the labels from `run` on start together
abbrev pub invariant-loop-i : goal.invariant-loop-i
invariant-loop-i l = record {
  hangs : l.hangs.items ≡ filter_map (hang_of (map ordered_view l.labels) l.places) (take l.i l.places);
  run : IsRun (map ordered_view l.labels) l.places l.run l.i;
}
