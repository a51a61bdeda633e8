-- Numbers that a JSON reader takes as whole numbers of 64 bits.
use Rattle.std.specs.Prelude.{ℕ, ◌^◌, ◌<◌, ⊤, List, Option, Some, None}
use Rattle.oxc_span.specs.Label.{Label}
use Rattle.oxc_handlers.specs.declared.json_report.places.Place.{Place}
use Rattle.oxc_handlers.specs.JsonText.{label_place}

abbrev pub IsPlaceInRange : Option Place → Type 0
IsPlaceInRange None = ⊤
IsPlaceInRange (Some place) = (place.line < 2 ^ 64) × (place.column < 2 ^ 64)

-- the numbers of a label, and those of its place in such a source
pub record IsInRange (source : Option (List ℕ)) (label : Label) : Type 0 where
  pub offset : label.offset < 2 ^ 64
  pub len : label.len < 2 ^ 64
  pub place : IsPlaceInRange (label_place source label)
