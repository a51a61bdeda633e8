-- An empty array has no item.
use Rattle.std.proofs.Common.{◌≡◌, List, [], ◌∷◌, length, nat_eq, refl, rules}
use Rattle.std.specs.declared.alloc.Global.{Global}
use Rattle.json.specs.Value.{items_view}
use Rattle.json.specs.declared.value.Value.{Value}
use Rattle.json_spots.specs.Spot.{has_no_item}

pub no_item : (items : List (Value Global)) → has_no_item (items_view items) ≡ nat_eq (length items) 0
no_item [] = refl
no_item (item ∷ items) = search rules
