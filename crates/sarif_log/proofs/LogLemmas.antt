-- Lists of JSON values, and of members.
use Rattle.std.proofs.Common.{◌≡◌, ℕ, List, [], ◌∷◌, map, refl, ap}
use Rattle.std.specs.Borrow.{Bor}
use Rattle.std.specs.declared.alloc.Global.{Global}
use Rattle.json.specs.Value.{value_view, items_view, members_view}
use Rattle.json.specs.declared.value.Value.{Value}
use Rattle.sarif_log.specs.Log.{list_of, member_list, member_view}

pub list_seen : (values : List (Value Global)) → map value_view values ≡ list_of (items_view values)
list_seen [] = refl
list_seen (value ∷ values) = ap (λ rest. value_view value ∷ rest) (list_seen values)

pub members_seen : (members : List (Bor (List ℕ) × Value Global)) → map member_view members ≡ member_list (members_view members)
members_seen [] = refl
members_seen (member ∷ members) = ap (λ rest. member_view member ∷ rest) (members_seen members)
