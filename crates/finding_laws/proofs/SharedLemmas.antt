-- What the laws of more than one subject, or several files of one, use.
use Rattle.std.proofs.Common.{◌≡◌, ◌∙◌, ℕ, ◌++◌, Bool, true, List, [], ◌∷◌}
use Rattle.std.specs.List.{list_all}
use Rattle.std.proofs.lemmas.Bool.{and_from}
use Rattle.std.proofs.lemmas.List.Folds.{list_all-append}

pub all_append : (passes : ℕ → Bool) (xs ys : List ℕ) → list_all passes xs ≡ true → list_all passes ys ≡ true → list_all passes (xs ++ ys) ≡ true
all_append passes xs ys first second = list_all-append passes xs ys ∙ and_from (list_all passes xs) (list_all passes ys) first second

-- each element has a property
abbrev pub ByRecursion : {X : Type 0} → (X → Type 0) → List X → Type 0
ByRecursion Fits [] = Unit {0}
ByRecursion Fits (x ∷ xs) = Fits x × ByRecursion Fits xs
