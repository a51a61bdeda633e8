-- Lists of views, and labels in label order.
use Rattle.std.proofs.Common.{◌≡◌, ℕ, ◌<◌, ◌≤◌, List, [], ◌∷◌, length, map, get_or, refl, zero, suc, arith, All, subst, sym, ap}
use Rattle.std.proofs.lemmas.List.{length-map}
use Rattle.std.specs.List.{slice_get}
use Rattle.std.specs.Option.{option_map}
use Rattle.oxc_span.specs.Label.{Label}
use Rattle.oxc_plan.specs.Order.{label_at, label_order}
use Rattle.oxc_plan.specs.Plan.{in_order, ordered_label}

pub get_map : {A B : Type 0} (f : A → B) (xs : List A) (i : ℕ) → slice_get (map f xs) i ≡ option_map f (slice_get xs i)
get_map f [] i = refl
get_map f (x ∷ xs) zero = refl
get_map f (x ∷ xs) (suc i) = get_map f xs i

pub get_or_map : {A B : Type 0} (f : A → B) (xs : List A) (i : ℕ) (d : A) (e : B) → i < length xs → get_or (map f xs) i e ≡ f (get_or xs i d)
get_or_map f [] i d e lt = absurd (omega arith)
get_or_map f (x ∷ xs) zero d e lt = refl
get_or_map f (x ∷ xs) (suc i) d e lt = get_or_map f xs i d e (omega arith)

pub get_past_map : {A B : Type 0} (f : A → B) (xs : List A) (i : ℕ) (e : B) → length xs ≤ i → get_or (map f xs) i e ≡ e
get_past_map f [] i e le = refl
get_past_map f (x ∷ xs) zero e le = absurd (omega arith)
get_past_map f (x ∷ xs) (suc i) e le = get_past_map f xs i e (omega arith)

pub all_map_at : {A B : Type 0} (P : B → Type 0) (f : A → B) (xs : List A) (i : ℕ) (x : A) → All P (map f xs) → i < length xs → x ≡ get_or xs i x → P (f x)
all_map_at P f xs i x all lt e =
    let size : i < length (map f xs) = rw length-map lt in
    let here : P (f (get_or xs i x)) = subst P (get_or_map f xs i x (f x) lt) (all i (f x) size) in
    subst (λ y. P (f y)) (sym e) here

-- the labels at the places of the label order are the labels in label order
pub labels_in_order : (labels : List Label) (order : List ℕ) → order ≡ label_order labels → map (λ at. ordered_label (label_at labels at)) order ≡ in_order labels
unfolding in_order
labels_in_order labels order e = ap (map (λ at. ordered_label (label_at labels at))) e

-- what stands at a place of a list that is mapped
pub ruleset at_mapped = (get_or_map, get_past_map)
