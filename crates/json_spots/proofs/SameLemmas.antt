-- What is the same in values that differ in the order of members alone.
use Rattle.std.proofs.Common.{◌≡◌, ℕ, zero, suc, ◌+◌, List, [], ◌∷◌, ◌++◌, Bool, true, false, if◌then◌else◌, ◌&&◌, Option, Some, None, option_map, flat_map, slice_get, refl, ap, sym, ◌∙◌, subst}
use Rattle.std.specs.Option.{option_and_then}
use Rattle.json.specs.Json.{Json, null, boolean, number, string, array, object, Items, no_items, item, Members}
use Rattle.json.specs.Find.{get_item, get_member, is_null}
use Rattle.json_spots.specs.declared.step.Step.{Step}
use Rattle.json_spots.specs.declared.step.Step.TheVariants.{Key, Nth, Each, Member}
use Rattle.json_spots.specs.declared.step.Path.{Path}
use Rattle.json_spots.specs.declared.spot.Arrival.{Arrival}
use Rattle.json_spots.specs.declared.spot.Arrival.TheVariants.{There, Null, Not}
use Rattle.json_spots.specs.Said.{Said, nothing, words, figure, truth, other, inward, lead, said_of, name_said, said_from, said_at, outward}
use Rattle.json_spots.specs.Spot.{By, name, index, Crumb, Spot, Reached, told, one_told, item_crumbs, of_array, of_object, inside, wanted_at, child, ends, onward, unless_null, gone, each}
use Rattle.json_spots.specs.Same.{Shown, a_null, a_bool, a_number, a_text, an_array, an_object, shown, Same, SameFound, SameCrumb, AllSame, SameSpot, SameReached, is_placed, are_placed}

-- ---- values

found_same : (a b : Option Json) → ((steps : List Step) → option_map shown (option_and_then (lead steps) a) ≡ option_map shown (option_and_then (lead steps) b)) → SameFound a b
found_same None None h = tt
found_same None (Some b) h = let e = h [] in cc
found_same (Some a) None h = let e = h [] in cc
found_same (Some a) (Some b) h = h

-- a step leads to the same
same_inward : (a b : Json) → Same a b → (step : Step) → SameFound (inward step a) (inward step b)
same_inward a b h step = found_same (inward step a) (inward step b) (λ steps. h (step ∷ steps))

shown_said : Option Shown → Said
shown_said None = nothing
shown_said (Some a_null) = nothing
shown_said (Some (a_bool b)) = truth b
shown_said (Some (a_number text)) = figure text
shown_said (Some (a_text text)) = words text
shown_said (Some an_array) = other
shown_said (Some an_object) = other

by_shown : (found : Option Json) → said_of found ≡ shown_said (option_map shown found)
unfolding shown_said
by_shown None = refl
by_shown (Some null) = refl
by_shown (Some (boolean b)) = refl
by_shown (Some (number text)) = refl
by_shown (Some (string text)) = refl
by_shown (Some (array items)) = refl
by_shown (Some (object ms)) = refl

said_same : (a b : Json) → Same a b → (steps : List Step) → said_of (lead steps a) ≡ said_of (lead steps b)
said_same a b h steps = by_shown (lead steps a) ∙ ap shown_said (h steps) ∙ sym (by_shown (lead steps b))

null_in : Option Shown → Bool
null_in None = false
null_in (Some a_null) = true
null_in (Some (a_bool b)) = false
null_in (Some (a_number text)) = false
null_in (Some (a_text text)) = false
null_in (Some an_array) = false
null_in (Some an_object) = false

null_shown : (value : Json) → is_null value ≡ null_in (Some (shown value))
unfolding null_in
null_shown null = refl
null_shown (boolean b) = refl
null_shown (number text) = refl
null_shown (string text) = refl
null_shown (array items) = refl
null_shown (object ms) = refl

null_same : (a b : Json) → Same a b → is_null a ≡ is_null b
null_same a b h = null_shown a ∙ ap null_in (h []) ∙ sym (null_shown b)

-- ---- paths

crumb_said : (path : Path) (a b : Crumb) → SameCrumb a b → said_from path (Some a) ≡ said_from path (Some b)
crumb_said path a b h =
    elim path.is_name as (λ named. (if named then name_said a.by else said_of (lead path.steps.items a.value)) ≡ (if named then name_said b.by else said_of (lead path.steps.items b.value)))
    [ true ↦ ap name_said h.1 | false ↦ said_same a.value b.value h.0 path.steps.items ]

nth_said : (path : Path) (xs ys : List Crumb) → AllSame SameCrumb xs ys → (n : ℕ) → said_from path (slice_get xs n) ≡ said_from path (slice_get ys n)
nth_said path [] [] h n = refl
nth_said path [] (b ∷ ys) h n = absurd h
nth_said path (a ∷ xs) [] h n = absurd h
nth_said path (a ∷ xs) (b ∷ ys) h zero = crumb_said path a b h.0
nth_said path (a ∷ xs) (b ∷ ys) h (suc n) = nth_said path xs ys h.1 n

-- the same is said at each path
pub same_said : (a b : Spot) → SameSpot a b → (path : Path) → said_at path a ≡ said_at path b
unfolding said_at outward
same_said a b h path = nth_said path (a.here ∷ a.outer) (b.here ∷ b.outer) (h.here, h.outer) path.out

-- ---- steps

crumb_same : (by : By) (a b : Json) → Same a b → AllSame SameCrumb (told by a) (told by b)
crumb_same by a b h =
    subst (λ left. AllSame SameCrumb (told by a) (if left then [] else record { value = b; by = by } ∷ [])) (null_same a b h)
    (elim (is_null a) as (λ left. AllSame SameCrumb (if left then [] else record { value = a; by = by } ∷ []) (if left then [] else record { value = b; by = by } ∷ [])) [ true ↦ tt | false ↦ ((h, refl), tt) ])

one_same : (by : By) (a b : Option Json) → SameFound a b → AllSame SameCrumb (one_told by a) (one_told by b)
one_same by None None h = tt
one_same by None (Some b) h = absurd h
one_same by (Some a) None h = absurd h
one_same by (Some a) (Some b) h = crumb_same by a b h

items_same : (at : ℕ) (xs ys : Items) → ((n : ℕ) → SameFound (get_item n xs) (get_item n ys)) → AllSame SameCrumb (item_crumbs at xs) (item_crumbs at ys)
items_same at no_items no_items h = tt
items_same at no_items (item b ys) h = absurd (h 0)
items_same at (item a xs) no_items h = absurd (h 0)
items_same at (item a xs) (item b ys) h = ((h 0, refl), items_same (at + 1) xs ys (λ n. h (suc n)))

SameInside : Option (List Crumb) → Option (List Crumb) → Type 0
SameInside None None = Unit {0}
SameInside None (Some ys) = ⊥
SameInside (Some xs) None = ⊥
SameInside (Some xs) (Some ys) = AllSame SameCrumb xs ys

arrays_same : (step : Step) → is_placed step ≡ true → (xs ys : Items) → Same (array xs) (array ys) → SameInside (of_array step xs) (of_array step ys)
unfolding SameInside inward
arrays_same (Key key) p xs ys h = tt
arrays_same (Nth at) p xs ys h = one_same (index at) (get_item at xs) (get_item at ys) (same_inward (array xs) (array ys) h (Nth at))
arrays_same Each p xs ys h = items_same 0 xs ys (λ n. same_inward (array xs) (array ys) h (Nth n))
arrays_same Member p xs ys h = cc

objects_same : (step : Step) → is_placed step ≡ true → (ms ns : Members) → Same (object ms) (object ns) → SameInside (of_object step ms) (of_object step ns)
unfolding SameInside inward
objects_same (Key key) p ms ns h = one_same (name key.now) (get_member key.now ms) (get_member key.now ns) (same_inward (object ms) (object ns) h (Key key))
objects_same (Nth at) p ms ns h = tt
objects_same Each p ms ns h = tt
objects_same Member p ms ns h = cc

inside_same : (step : Step) → is_placed step ≡ true → (a b : Json) → Same a b → SameInside (inside step a) (inside step b)
unfolding SameInside inside
inside_same step p (array xs) (array ys) h = arrays_same step p xs ys h
inside_same step p (object ms) (object ns) h = objects_same step p ms ns h
inside_same step p (array xs) b h = let e = h [] in cc
inside_same step p (object ms) b h = let e = h [] in cc
inside_same step p a (array ys) h = let e = h [] in cc
inside_same step p a (object ns) h = let e = h [] in cc
inside_same step p a b h = tt

pub append_same : {X : Type 0} (R : X → X → Type 0) (us vs cs ds : List X) → AllSame R us vs → AllSame R cs ds → AllSame R (us ++ cs) (vs ++ ds)
append_same R [] [] cs ds h k = k
append_same R [] (b ∷ vs) cs ds h k = absurd h
append_same R (a ∷ us) [] cs ds h k = absurd h
append_same R (a ∷ us) (b ∷ vs) cs ds h k = (h.0, append_same R us vs cs ds h.1 k)

ends_same : (a b : Spot) (arrival : Arrival) → SameSpot a b → AllSame SameReached (ends a arrival) (ends b arrival)
ends_same a b arrival h = ((h, refl), tt)

unless_same : (a b : Spot) (xs ys : List Reached) → SameSpot a b → AllSame SameReached xs ys → AllSame SameReached (unless_null a xs) (unless_null b ys)
unless_same a b xs ys h k =
    subst (λ left. AllSame SameReached (unless_null a xs) (if left then ends b Null else ys)) (null_same a.here.value b.here.value h.here.0)
    (elim (is_null a.here.value) as (λ left. AllSame SameReached (if left then ends a Null else xs) (if left then ends b Null else ys)) [ true ↦ ends_same a b Null h | false ↦ k ])

child_same : (a b : Spot) (x y : Crumb) → SameSpot a b → SameCrumb x y → SameSpot (child a x) (child b y)
child_same a b x y h k = record { here = k; outer = (h.here, h.outer) }

crumbs_same : (rest : Spot → List Reached) → ((a b : Spot) → SameSpot a b → AllSame SameReached (rest a) (rest b)) → (a b : Spot) → SameSpot a b → (xs ys : List Crumb) → AllSame SameCrumb xs ys
    → AllSame SameReached (flat_map (λ crumb. rest (child a crumb)) xs) (flat_map (λ crumb. rest (child b crumb)) ys)
crumbs_same rest step a b h [] [] k = tt
crumbs_same rest step a b h [] (y ∷ ys) k = absurd k
crumbs_same rest step a b h (x ∷ xs) [] k = absurd k
crumbs_same rest step a b h (x ∷ xs) (y ∷ ys) k =
    append_same SameReached (rest (child a x)) (rest (child b y)) (flat_map (λ crumb. rest (child a crumb)) xs) (flat_map (λ crumb. rest (child b crumb)) ys)
    (step (child a x) (child b y) (child_same a b x y h k.0)) (crumbs_same rest step a b h xs ys k.1)

onward_same : (step : Step) (rest : Spot → List Reached) → ((a b : Spot) → SameSpot a b → AllSame SameReached (rest a) (rest b)) → (a b : Spot) → SameSpot a b → (xs ys : Option (List Crumb)) → SameInside xs ys
    → AllSame SameReached (onward step rest a xs) (onward step rest b ys)
unfolding SameInside
onward_same step rest go a b h None None k = ends_same a b (Not (wanted_at step)) h
onward_same step rest go a b h None (Some ys) k = absurd k
onward_same step rest go a b h (Some xs) None k = absurd k
onward_same step rest go a b h (Some xs) (Some ys) k = crumbs_same rest go a b h xs ys k

pub both_true : (x y : Bool) → x && y ≡ true → (x ≡ true) × (y ≡ true)
both_true true y h = (refl, h)
both_true false y h = cc

gone_same : (steps : List Step) → are_placed steps ≡ true → (a b : Spot) → SameSpot a b → AllSame SameReached (gone steps a) (gone steps b)
unfolding gone
gone_same [] p a b h = ends_same a b There h
gone_same (step ∷ steps) p a b h =
    let parts = both_true (is_placed step) (are_placed steps) p in
    onward_same step (λ inner. unless_null inner (gone steps inner))
    (λ c d k. unless_same c d (gone steps c) (gone steps d) k (gone_same steps parts.1 c d k))
    a b h (inside step a.here.value) (inside step b.here.value) (inside_same step parts.0 a.here.value b.here.value h.here.0)

-- steps lead to the same spots, in the same order
pub same_each : (steps : List Step) → are_placed steps ≡ true → (a b : Spot) → SameSpot a b → AllSame SameReached (each steps a) (each steps b)
same_each steps p a b h = unless_same a b (gone steps a) (gone steps b) h (gone_same steps p a b h)
