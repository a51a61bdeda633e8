-- Parts of names.
use Rattle.std.proofs.Common.{◌≡◌, ℕ, zero, suc, ◌-◌, ◌≤◌, not, get_or, arith, List, [], ◌∷◌, ◌++◌, length, map, take, Bor, refl, sym, ap, ◌∙◌}
use Rattle.std.proofs.lemmas.List.{map-append, length-map}
use Rattle.changed_rows.specs.Names.{ends_below, goes_up, left}

map_take : (n : ℕ) (xs : List (Bor (List ℕ))) → map (λ x. x.now) (take n xs) ≡ take n (map (λ x. x.now) xs)
map_take zero xs = refl
map_take (suc n) [] = refl
map_take (suc n) (x ∷ xs) = ap (λ l. x.now ∷ l) (map_take n xs)

pub map_left : (xs : List (Bor (List ℕ))) → map (λ x. x.now) (take (length xs - 1) xs) ≡ left (map (λ x. x.now) xs)
map_left xs = map_take (length xs - 1) xs ∙ ap (λ n. take (n - 1) (map (λ x. x.now) xs)) (sym (length-map xs (λ x. x.now)))

pub map_added : (xs : List (Bor (List ℕ))) (x : Bor (List ℕ)) → map (λ y. y.now) (xs ++ x ∷ []) ≡ map (λ y. y.now) xs ++ x.now ∷ []
map_added xs x = map-append (λ y. y.now) xs (x ∷ [])

-- the last of some parts is a folder's name
pub last_below : (xs : List (Bor (List ℕ))) (d : Bor (List ℕ)) → 1 ≤ length xs → ends_below (map (λ y. y.now) xs) ≡ not (goes_up (get_or xs (length xs - 1) d).now)
last_below [] d some = absurd (omega arith)
last_below (y ∷ []) d some = refl
last_below (y ∷ z ∷ rest) d some =
    let one : suc (length (z ∷ rest) - 1) ≡ length (y ∷ z ∷ rest) - 1 = omega arith in
    last_below (z ∷ rest) d (omega arith) ∙ ap (λ n. not (goes_up (get_or (y ∷ z ∷ rest) n d).now)) one
