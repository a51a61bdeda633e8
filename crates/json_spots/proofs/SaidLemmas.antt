-- Going outwards from a spot.
use Rattle.std.proofs.Common.{◌≡◌, ℕ, ◌-◌, ◌<◌, suc, zero, Some, option_map, refl, ap, ◌∙◌, slice_get, arith}
use Rattle.std.proofs.lemmas.Option.{slice_get-map}
use Rattle.json_spots.specs.declared.spot.Spot as code_spot
use Rattle.json_spots.specs.Spot.{Spot, crumb_view, spot_view}
use Rattle.json_spots.specs.Said.{outward}

pub outward_zero : (spot : Spot) → outward 0 spot ≡ Some spot.here
unfolding outward
outward_zero spot = refl

pub outward_more : (spot : code_spot.Spot) (out : ℕ) → 0 < out → outward out (spot_view spot) ≡ option_map crumb_view (slice_get spot.outer.items (out - 1))
unfolding outward
outward_more spot zero h = absurd (omega arith)
outward_more spot (suc out) h = slice_get-map crumb_view spot.outer.items out ∙ ap (λ k. option_map crumb_view (slice_get spot.outer.items k)) (let e : out ≡ suc out - 1 = omega arith in e)
