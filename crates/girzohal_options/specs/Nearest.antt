-- The known name that an unknown one may mean.
use Rattle.std.specs.Prelude.{◌≡◌, ◌<◌, ◌≤◌, ℕ, nat_eq, List, [], ◌∷◌, length, Bool, Option, Some, None}
use Rattle.std.specs.List.{All, Contains, filter, starts_with}
use Rattle.std.specs.Str.{chars}
use Rattle.strsim.specs.Edits.{levenshtein_row}

-- the fewest characters that are added, left out or replaced between two names
abbrev pub edits : List ℕ → List ℕ → ℕ
edits name other = levenshtein_row nat_eq (chars name) (chars other) (length (chars other))

-- a name begins with a text
abbrev pub begins : List ℕ → List ℕ → Bool
begins text name = starts_with nat_eq name text

-- one of the names with the fewest edits, of which there are at most two; none if all names have more
abbrev pub IsClosest : List (List ℕ) → List ℕ → Option (List ℕ) → Type 0
IsClosest names text None = All (λ name. 2 < edits text name) names
IsClosest names text (Some it) = Contains names it × (edits text it ≤ 2) × All (λ name. edits text it ≤ edits text name) names

-- the only name that begins with the text; of several none is meant, and if none begins so, the closest one
abbrev pub IsOnlyOr : List (List ℕ) → List (List ℕ) → List ℕ → Option (List ℕ) → Type 0
IsOnlyOr [] names text near = IsClosest names text near
IsOnlyOr (only ∷ []) names text near = near ≡ Some only
IsOnlyOr (first ∷ (next ∷ rest)) names text near = near ≡ None

abbrev pub IsNearest : List (List ℕ) → List ℕ → Option (List ℕ) → Type 0
IsNearest names text near = IsOnlyOr (filter (begins text) names) names text near
