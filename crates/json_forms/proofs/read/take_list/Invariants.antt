-- Those before are taken; those left are still to come.
use Rattle.std.proofs.Common.{◌≡◌, drop, map}
use Rattle.json_spots.specs.Spot.{reached_view}
use Rattle.json_forms.specs.Finding.{outcome_of}
use Rattle.json_forms.specs.Read.{first_refusal, reading_view, taken}
use Rattle.json_forms.proofs.read.take_list.Given as goal

abbrev pub invariant-loop-reached : goal.invariant-loop-reached
invariant-loop-reached l =
    record {
      taken_so_far : taken (reading_view l.fn.reading) (map (outcome_of l.list) (map reached_view l.reached-items))
          ≡ taken (reading_view l.reading) (map (outcome_of l.list) (map reached_view (drop l.reached-index l.reached-items)));
      none_so_far : first_refusal (map (outcome_of l.list) (map reached_view l.reached-items))
          ≡ first_refusal (map (outcome_of l.list) (map reached_view (drop l.reached-index l.reached-items)));
    }
