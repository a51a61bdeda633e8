-- Which reports are kept.
use Rattle.std.specs.Prelude.{Bool, true, false, List, [], ◌∷◌, if◌then◌else◌}

-- whether the next one is kept, and what is said of the others; one of which nothing is said is kept
abbrev pub next_flag : List Bool → Bool
next_flag [] = true
next_flag (flag ∷ flags) = flag

abbrev pub later_flags : List Bool → List Bool
later_flags [] = []
later_flags (flag ∷ flags) = flags

abbrev pub one_if : {A : Type 0} → Bool → A → List A
one_if true it = it ∷ []
one_if false it = []

-- those that are kept, in order and unchanged
abbrev pub kept_of : {A : Type 0} → List Bool → List A → List A
kept_of flags [] = []
kept_of flags (it ∷ its) = if next_flag flags then it ∷ kept_of (later_flags flags) its else kept_of (later_flags flags) its
