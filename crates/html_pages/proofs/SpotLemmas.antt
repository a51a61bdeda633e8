-- Spots in order.
use Rattle.std.proofs.Common.{◌+◌, ◌<◌, List, [], ◌∷◌, length, map, get_or, ap, ◌∙◌, arith}
use Rattle.std.specs.List.Sorted.{IsPermutation, IsSorted, IsSortedBy}
use Rattle.std.specs.Ordering.{is_lt}
use Rattle.std.proofs.lemmas.List.{length-map, get_or-map}
use Rattle.std.proofs.lemmas.List.Sorted.{IsPermutation-map}
use Rattle.html_pages.specs.declared.spots.Spot.{Spot}
use Rattle.html_pages.specs.Spots.{IsInOrder, spot_order, spot_parts}

sorted_map : (spots : List Spot) → IsSortedBy (λ a b. is_lt (spot_order (spot_parts a) (spot_parts b))) spots → IsSorted spot_order (map spot_parts spots)
sorted_map [] up k d low high = absurd (omega arith)
sorted_map (spot ∷ rest) up k d low high =
    let all = spot ∷ rest in
    let long = length-map all spot_parts in
    let next : k + 1 < length all = omega (arith, long, high) in
    let here : k < length all = omega (arith, next) in
    ap (λ a. is_lt (spot_order a (get_or (map spot_parts all) k d))) (get_or-map spot_parts all (k + 1) spot d next)
    ∙ ap (λ b. is_lt (spot_order (spot_parts (get_or all (k + 1) spot)) b)) (get_or-map spot_parts all k spot d here)
    ∙ up k spot low next

pub ordered_spots : (old new : List Spot) → IsPermutation old new → IsSortedBy (λ a b. is_lt (spot_order (spot_parts a) (spot_parts b))) new → IsInOrder (map spot_parts old) (map spot_parts new)
ordered_spots old new same up = record { permutation = IsPermutation-map spot_parts old new same; sorted_is = sorted_map new up }
