-- Baselines that were written of findings, and the order of entries.
use Rattle.std.specs.Prelude.{◌≡◌, ℕ, Bool, true, List, [], ◌∷◌, Option, Some, None, if◌then◌else◌}
use Rattle.finding_filters.specs.Finding.{FindingParts}
use Rattle.filtered_findings.specs.Verdicts.{twice_in}
use Rattle.filtered_findings.specs.declared.verdicts.Filters.{Filters}

-- rows have the same text, as far as they are known
abbrev pub AreSameRows : Option (List ℕ) → Option (List ℕ) → Type 0
AreSameRows None other = Unit {0}
AreSameRows (Some row) None = Unit {0}
AreSameRows (Some row) (Some other) = row ≡ other

-- an entry says what a finding says: the scope where scopes are compared; the row may be known of one of them alone
pub record SaysTheSame (filters : Filters) (it entry : FindingParts) : Type 0 where
  pub file : entry.file ≡ it.file
  pub scope : filters.compares_scopes ≡ true → entry.scope ≡ it.scope
  pub code : entry.code ≡ it.code
  pub message : entry.message ≡ it.message
  pub row : AreSameRows it.row_text entry.row_text

abbrev pub SayTheSame : Filters → List FindingParts → List FindingParts → Type 0
SayTheSame filters [] [] = Unit {0}
SayTheSame filters [] (entry ∷ old) = ⊥
SayTheSame filters (it ∷ its) [] = ⊥
SayTheSame filters (it ∷ its) (entry ∷ old) = SaysTheSame filters it entry × SayTheSame filters its old

-- a baseline has an entry for each finding, and the same of both are repetitions
pub record IsOwn (filters : Filters) (its old : List FindingParts) : Type 0 where
  pub each : SayTheSame filters its old
  pub repeated : twice_in filters old ≡ twice_in filters its

-- ---- the order of entries

abbrev pub not_twice : List FindingParts → List Bool → List FindingParts
not_twice [] flags = []
not_twice (it ∷ its) [] = []
not_twice (it ∷ its) (flag ∷ flags) = if flag then not_twice its flags else it ∷ not_twice its flags

-- those that are no repetitions
abbrev pub once_in : Filters → List FindingParts → List FindingParts
once_in filters its = not_twice its (twice_in filters its)
