-- How many findings a baseline doesn't have.
use Rattle.std.specs.Prelude.{◌≡◌, ℕ, ◌+◌, ◌-◌, ◌&&◌, ◌||◌, not, min, Bool, true, false, List, [], ◌∷◌, Option, Some, None, filter, is_some, option_map, if◌then◌else◌}
use Rattle.std.specs.List.{All}
use Rattle.std.specs.Str.{bytes_eq}
use Rattle.finding_filters.specs.Finding.{FindingParts}
use Rattle.finding_filters.specs.Texts.{row_class}
use Rattle.filtered_findings.specs.Counts.{is_verdict}
use Rattle.filtered_findings.specs.Verdicts.{is_late, kind_in, twice_in, verdicts_of}
use Rattle.filtered_findings.specs.declared.verdicts.Filters.{Filters}
use Rattle.filtered_findings.specs.declared.verdicts.Verdict.{Verdict}
use Rattle.filtered_findings.specs.declared.verdicts.Verdict.TheVariants.{Twice, InBaseline}

-- ---- kinds

-- a finding of a kind
abbrev pub is_of : Filters → List ℕ → FindingParts → Bool
is_of filters kind it = bytes_eq (kind_in filters it) kind

-- one that the diff leaves
abbrev pub is_late_of : Filters → List ℕ → FindingParts → Bool
is_late_of filters kind it = is_late filters.changed it && is_of filters kind it

abbrev pub is_class : List ℕ → Option (List ℕ) → Bool
is_class class None = false
is_class class (Some other) = bytes_eq other class

-- a finding of a kind whose row has a text, which are told by one class
abbrev pub is_in : Filters → List ℕ → FindingParts → Bool
is_in filters class it = is_class class (option_map (row_class (kind_in filters it)) it.row_text)

abbrev pub is_late_in : Filters → List ℕ → FindingParts → Bool
is_late_in filters class it = is_late filters.changed it && is_in filters class it

-- ---- rows

-- no row is known
abbrev pub HaveNoRows : List FindingParts → Type 0
HaveNoRows its = All (λ it. it.row_text ≡ None) its

-- each row is known
abbrev pub HaveRows : List FindingParts → Type 0
HaveRows its = All (λ it. is_some it.row_text ≡ true) its

-- those whose row is known
abbrev pub with_rows : List FindingParts → List FindingParts
with_rows its = filter (λ it. is_some it.row_text) its

-- one of a kind whose row isn't
abbrev pub is_bare_of : Filters → List ℕ → FindingParts → Bool
is_bare_of filters kind it = not (is_some it.row_text) && is_of filters kind it

-- ---- counts

-- no repetition, and not in the baseline
abbrev pub is_new : Verdict → Bool
is_new verdict = not (is_verdict Twice verdict || is_verdict InBaseline verdict)

-- how many of the findings that pass a test are new
abbrev pub count_new : (FindingParts → Bool) → List FindingParts → List Verdict → ℕ
count_new passes [] verdicts = 0
count_new passes (it ∷ its) [] = 0
count_new passes (it ∷ its) (verdict ∷ verdicts) = (if passes it && is_new verdict then 1 else 0) + count_new passes its verdicts

-- how many pass it and are no repetitions
abbrev pub count_once : (FindingParts → Bool) → List FindingParts → List Bool → ℕ
count_once passes [] flags = 0
count_once passes (it ∷ its) [] = 0
count_once passes (it ∷ its) (flag ∷ flags) = (if passes it && not flag then 1 else 0) + count_once passes its flags

abbrev pub count_of : Filters → (FindingParts → Bool) → List FindingParts → ℕ
count_of filters passes its = count_once passes its (twice_in filters its)

abbrev pub new_of : Filters → (FindingParts → Bool) → List FindingParts → List FindingParts → ℕ
new_of filters passes its old = count_new passes its (verdicts_of filters its old)

-- of those on changed rows as many are new as all of them are more than the entries, or else all on changed rows
abbrev pub IsLesser : Filters → (FindingParts → Bool) → (FindingParts → Bool) → List FindingParts → List FindingParts → Type 0
IsLesser filters late all its old = new_of filters late its old ≡ min (count_of filters late its) (count_of filters all its - count_of filters all old)

-- the entries without a row take as many as they are of those that the others leave
abbrev pub TakeTheRest : Filters → List ℕ → List FindingParts → List FindingParts → Type 0
TakeTheRest filters kind its old = new_of filters (is_of filters kind) its old ≡ new_of filters (is_of filters kind) its (with_rows old) - count_of filters (is_bare_of filters kind) old

-- and those on changed rows last
abbrev pub TakeLateLast : Filters → List ℕ → List FindingParts → List FindingParts → Type 0
TakeLateLast filters kind its old = new_of filters (is_late_of filters kind) its old ≡ min (new_of filters (is_late_of filters kind) its (with_rows old)) (new_of filters (is_of filters kind) its old)
