-- Fewer than three runs have none that is drawn over another.
use Rattle.std.proofs.Common.{◌≡◌, ◌<◌, List, [], ◌∷◌, length, refl, arith}
use Rattle.excerpt_blocks.specs.declared.labels.Run.{Run}
use Rattle.excerpt_blocks.specs.declared.labels.Phase.TheVariants.{First}
use Rattle.excerpt_blocks.specs.Labels.{overlaid_from}

pub few_stay : (runs : List Run) → length runs < 3 → overlaid_from First runs ≡ runs
few_stay [] few = refl
few_stay (run ∷ []) few = refl
few_stay (run ∷ over ∷ []) few = refl
few_stay (run ∷ over ∷ covered ∷ runs) few = absurd (omega (arith, few))
