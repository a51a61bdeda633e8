-- What a writing loop that failed leaves in a sink.
use Rattle.std.specs.Prelude.{◌≡◌, ℕ, List, ◌++◌, ⊤, Option, None, Some}

-- what was received grew by a first part of the bytes
abbrev pub AppendsPrefix : Option (List ℕ) → Option (List ℕ) → List ℕ → Type 0
AppendsPrefix None new bytes = ⊤
AppendsPrefix (Some xs) None bytes = ⊥
AppendsPrefix (Some xs) (Some ys) bytes = (front : List ℕ) × (rest : List ℕ) × (bytes ≡ front ++ rest) × (ys ≡ xs ++ front)
