-- The way to a value further out.
use Rattle.std.proofs.Common.{◌≡◌, ℕ, zero, suc, ◌-◌, ◌<◌, drop, ap, ◌∙◌, arith}
use Rattle.std.proofs.lemmas.List.{drop-map}
use Rattle.json_spots.specs.declared.spot.Spot as code_spot
use Rattle.json_spots.specs.Spot.{crumb_view, crumbs_view, spot_view}
use Rattle.json_forms.specs.Refusal.{spot_text, trail_text}

pub text_further : (spot : code_spot.Spot) (up : ℕ) → 0 < up → spot_text (spot_view spot) up ≡ trail_text (crumbs_view (drop (up - 1) spot.outer.items))
text_further spot zero h = absurd (omega arith)
text_further spot (suc up) h =
    ap trail_text (drop-map crumb_view up spot.outer.items) ∙ ap (λ n. trail_text (crumbs_view (drop n spot.outer.items))) (let e : up ≡ suc up - 1 = omega arith in e)
