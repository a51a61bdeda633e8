-- Findings that are picked and fitted, one after another.
use Rattle.std.proofs.Common.{◌≡◌, ℕ, ◌+◌, ◌<◌, ◌≤◌, List, [], ◌∷◌, ◌++◌, append_assoc, append-nil, length, get_or, drop, Option, Some, None, refl, sym, ◌∙◌, ap, map, subst, inl, inr}
use Rattle.std.specs.List.{All, filter_map, flat_map, cons_option}
use Rattle.std.specs.Option.{option_to_list}
use Rattle.std.proofs.lemmas.List.{drop_all, drop_more}
use Rattle.std.proofs.lemmas.List.Elements.{All-nil, All-cons}
use Rattle.oxc_protocol.specs.Parts.{OxcParts}
use Rattle.found_reports.specs.Found.{StandsIn}
use Rattle.lsp_server.specs.Seen.{StandIn}
use Rattle.girzohal_lsp.specs.Found.{AreFitted, IsFitted, IsPicked}

fitted_stand : (text : List ℕ) (it shown : OxcParts) → IsFitted text it shown → StandIn text shown
fitted_stand text it shown (inl (stand, is)) = subst (StandIn text) (sym is) stand
fitted_stand text it shown (inr (none, is)) = subst (StandIn text) (sym is) (All-nil (StandsIn text))

-- what is shown stands in the text
pub all_stand : (text : List ℕ) (found shown : List OxcParts) → AreFitted text found shown → All (StandIn text) shown
all_stand text [] shown are = subst (All (StandIn text)) (sym are) (All-nil (StandIn text))
all_stand text (it ∷ rest) [] are = absurd are
all_stand text (it ∷ rest) (first ∷ others) are =
    All-cons (StandIn text) first others (fitted_stand text it first are.0) (all_stand text rest others are.1)

-- ---- those so far, and those to come

abbrev pub AreSoFar : {A : Type 0} → List ℕ → (A → Option OxcParts) → List A → ℕ → List OxcParts → Type 0
AreSoFar text f xs i done =
    (more : List OxcParts) → AreFitted text (filter_map f (drop i xs)) more → AreFitted text (filter_map f xs) (done ++ more)

one_fitted : (text : List ℕ) (it one : Option OxcParts) (rest more : List OxcParts) → IsPicked text it one → AreFitted text rest more
    → AreFitted text (cons_option it rest) (option_to_list one ++ more)
one_fitted text None one rest more is are = subst (λ o. AreFitted text rest (option_to_list o ++ more)) (sym is) are
one_fitted text (Some it) None rest more is are = absurd is
one_fitted text (Some it) (Some one) rest more is are = (is, are)

-- none so far
pub none_yet : {A : Type 0} (text : List ℕ) (f : A → Option OxcParts) (xs : List A) → AreSoFar text f xs 0 []
none_yet text f xs = λ more are. are

-- one more
pub one_more : {A : Type 0} (text : List ℕ) (f : A → Option OxcParts) (xs : List A) (i : ℕ) (x : A) (one : Option OxcParts) (done : List OxcParts)
    → i < length xs → x ≡ get_or xs i x → IsPicked text (f x) one → AreSoFar text f xs i done → AreSoFar text f xs (i + 1) (done ++ option_to_list one)
one_more text f xs i x one done within is picked before = λ more are.
    let behind : drop i xs ≡ x ∷ drop (i + 1) xs = drop_more xs i x within ∙ ap (λ y. y ∷ drop (i + 1) xs) (sym is) in
    let next = one_fitted text (f x) one (filter_map f (drop (i + 1) xs)) more picked are in
    subst (AreFitted text (filter_map f xs)) (sym (append_assoc done (option_to_list one) more))
    (before (option_to_list one ++ more) (subst (λ l. AreFitted text (filter_map f l) (option_to_list one ++ more)) (sym behind) next))

-- all of them
pub all_picked : {A : Type 0} (text : List ℕ) (f : A → Option OxcParts) (xs : List A) (i : ℕ) (done : List OxcParts) → length xs ≤ i
    → AreSoFar text f xs i done → AreFitted text (filter_map f xs) done
all_picked text f xs i done past before =
    let none : AreFitted text (filter_map f (drop i xs)) [] = subst (λ l. AreFitted text (filter_map f l) []) (sym (drop_all i xs past)) refl in
    subst (AreFitted text (filter_map f xs)) (append-nil done) (before [] none)

-- reports by what contracts see of them
pub seen_map : {A B C : Type 0} (f : B → Option C) (v : A → B) (xs : List A) → filter_map (λ x. f (v x)) xs ≡ filter_map f (map v xs)
seen_map f v [] = refl
seen_map f v (x ∷ xs) = ap (cons_option (f (v x))) (seen_map f v xs)

-- ---- findings that are picked of parts, one part after another

fitted_parts : (text : List ℕ) (its bs xs ys : List OxcParts) → AreFitted text its xs → AreFitted text bs ys → AreFitted text (its ++ bs) (xs ++ ys)
fitted_parts text [] bs xs ys none are = subst (λ (l : List OxcParts). AreFitted text bs (l ++ ys)) (sym none) are
fitted_parts text (it ∷ its) bs [] ys none are = absurd none
fitted_parts text (it ∷ its) bs (x ∷ xs) ys each are = (each.0, fitted_parts text its bs xs ys each.1 are)

abbrev pub PartsSoFar : {A : Type 0} → List ℕ → (A → List OxcParts) → List A → ℕ → List OxcParts → Type 0
PartsSoFar text f xs i done = (more : List OxcParts) → AreFitted text (flat_map f (drop i xs)) more → AreFitted text (flat_map f xs) (done ++ more)

pub no_part : {A : Type 0} (text : List ℕ) (f : A → List OxcParts) (xs : List A) → PartsSoFar text f xs 0 []
no_part text f xs = λ more are. are

pub part_more : {A : Type 0} (text : List ℕ) (f : A → List OxcParts) (xs : List A) (i : ℕ) (x : A) (found done : List OxcParts)
    → i < length xs → x ≡ get_or xs i x → AreFitted text (f x) found → PartsSoFar text f xs i done → PartsSoFar text f xs (i + 1) (done ++ found)
part_more text f xs i x found done within is picked before = λ more are.
    let behind : drop i xs ≡ x ∷ drop (i + 1) xs = drop_more xs i x within ∙ ap (λ y. y ∷ drop (i + 1) xs) (sym is) in
    let next = fitted_parts text (f x) (flat_map f (drop (i + 1) xs)) found more picked are in
    subst (AreFitted text (flat_map f xs)) (sym (append_assoc done found more))
    (before (found ++ more) (subst (λ l. AreFitted text (flat_map f l) (found ++ more)) (sym behind) next))

pub all_parts : {A : Type 0} (text : List ℕ) (f : A → List OxcParts) (xs : List A) (i : ℕ) (done : List OxcParts) → length xs ≤ i
    → PartsSoFar text f xs i done → AreFitted text (flat_map f xs) done
all_parts text f xs i done past before =
    let none : AreFitted text (flat_map f (drop i xs)) [] = subst (λ l. AreFitted text (flat_map f l) []) (sym (drop_all i xs past)) refl in
    subst (AreFitted text (flat_map f xs)) (append-nil done) (before [] none)

-- of what is picked nothing is nothing shown
pub none_fitted : (text : List ℕ) (picked shown : List OxcParts) → picked ≡ [] → shown ≡ [] → AreFitted text picked shown
none_fitted text picked shown none is = subst (λ (l : List OxcParts). AreFitted text l shown) (sym none) is
