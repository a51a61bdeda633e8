-- What is listed, one after another.
use Rattle.std.proofs.Common.{◌≡◌, ℕ, ◌-◌, ◌≤◌, ◌<◌, ◌++◌, All, List, [], ◌∷◌, length, drop, take, get_or, map, refl, sym, ap, ap₂, ◌∙◌, arith, append_assoc}
use Rattle.std.specs.List.{flat_map}
use Rattle.std.proofs.lemmas.List.{take_rest}
use Rattle.std.proofs.lemmas.List.Elements.{All-head, All-tail}

-- the first, and the rest
pub split_first : {A : Type 0} (xs : List A) (x : A) → 1 ≤ length xs → x ≡ get_or xs 0 x → xs ≡ x ∷ take (length xs - 1) (drop 1 xs)
split_first [] x some is = absurd (omega (arith, some))
split_first (y ∷ ys) x some is = ap₂ (λ z zs. z ∷ zs) (sym is) (sym (take_rest (y ∷ ys) 1))

pub none_left : {A : Type 0} (xs : List A) → length xs < 1 → xs ≡ []
none_left [] few = refl
none_left (x ∷ xs) few = absurd (omega (arith, few))

-- what came before goes on with the first of what is left
pub first_listed : {A B : Type 0} (f : A → B) (x : A) (rest : List A) (old new all : List B) → new ≡ old ++ f x ∷ [] → old ++ map f (x ∷ rest) ≡ all → new ++ map f rest ≡ all
first_listed f x rest old new all pushed before = ap (λ front. front ++ map f rest) pushed ∙ (append_assoc old (f x ∷ []) (map f rest) ∙ before)

pub first_joined : {A B : Type 0} (f : A → List B) (x : A) (rest : List A) (old new all : List B) → new ≡ old ++ f x → old ++ flat_map f (x ∷ rest) ≡ all → new ++ flat_map f rest ≡ all
first_joined f x rest old new all pushed before = ap (λ front. front ++ flat_map f rest) pushed ∙ (append_assoc old (f x) (flat_map f rest) ∙ before)

-- what holds of all that are listed holds of the first, and of the rest
pub first_holds : {A B : Type 0} (P : B → Type 0) (f : A → B) (x : A) (rest : List A) → All P (map f (x ∷ rest)) → P (f x)
first_holds P f x rest all = All-head P (f x) (map f rest) all

pub rest_holds : {A B : Type 0} (P : B → Type 0) (f : A → B) (x : A) (rest : List A) → All P (map f (x ∷ rest)) → All P (map f rest)
rest_holds P f x rest all = All-tail P (f x) (map f rest) all
