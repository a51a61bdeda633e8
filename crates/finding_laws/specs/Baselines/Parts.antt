-- Parts of lists.
use Rattle.std.specs.Prelude.{◌≡◌, ◌⊎◌, List, [], ◌∷◌}

-- some of a list's elements, in order and unchanged
abbrev pub IsPartOf : {A : Type 0} → List A → List A → Type 0
IsPartOf [] its = Unit {0}
IsPartOf (it ∷ part) [] = ⊥
IsPartOf (it ∷ part) (other ∷ its) = ((it ≡ other) × IsPartOf part its) ⊎ IsPartOf (it ∷ part) its
