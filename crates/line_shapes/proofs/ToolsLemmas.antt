-- Shapes gathered from a table.
use Rattle.std.proofs.Common.{◌≡◌, List, [], ◌∷◌, ◌++◌, map, sym, ◌∙◌, ap, append_assoc, append-nil}
use Rattle.std.proofs.lemmas.List.{map-append}

pub one_more : {A B : Type 0} (f : A → B) (old new : List A) (x : A) (rest all : List B) → new ≡ old ++ x ∷ [] → map f old ++ (f x ∷ rest) ≡ all → map f new ++ rest ≡ all
one_more f old new x rest all e kept = ap (λ ys. map f ys ++ rest) e ∙ (ap (λ ys. ys ++ rest) (map-append f old (x ∷ [])) ∙ (append_assoc (map f old) (f x ∷ []) rest ∙ kept))

pub no_more : {A B : Type 0} (f : A → B) (old : List A) (all : List B) → map f old ++ [] ≡ all → map f old ≡ all
no_more f old all e = sym (append-nil (map f old)) ∙ e
