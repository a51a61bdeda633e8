-- Findings by their files, and words that the formats share.
use Rattle.std.specs.Prelude.{◌≡◌, ℕ, not, if◌then◌else◌, Bool, List, [], ◌∷◌, ◌++◌, Vec, filter, map, Option, unwrap_or}
use Rattle.std.specs.Borrow.{Bor}
use Rattle.std.specs.BTreeMap.{BTreeMap, get}
use Rattle.std.specs.BTreeSet.{BTreeSet, contains}
use Rattle.std.specs.List.{list_any}
use Rattle.std.specs.Option.{option_map_or}
use Rattle.std.specs.Str.{bytes_eq}
use Rattle.found_reports.specs.Names.{name_order}
use Rattle.ci_formats.specs.declared.finding.Finding.{Finding}
use Rattle.ci_formats.specs.Finding.{FindingParts, finding_parts}

-- a finding is on the file of this name
abbrev pub is_on : List ℕ → FindingParts → Bool
is_on name f = bytes_eq f.name name

-- the names of the files, each once, in the order of their first findings
unfoldable pub names_of : List FindingParts → List (List ℕ)
names_of [] = []
names_of (f ∷ rest) = f.name ∷ filter (λ name. not (bytes_eq name f.name)) (names_of rest)

-- names with one more, unless it is one of them
abbrev pub with_name : List (List ℕ) → List ℕ → List (List ℕ)
with_name known name = if list_any (bytes_eq name) known then known else known ++ name ∷ []

-- what a function gives of each finding and of those before it, joined
unfoldable pub along : {A : Type 0} → (List FindingParts → FindingParts → List A) → List FindingParts → List FindingParts → List A
along give earlier [] = []
along give earlier (f ∷ rest) = give earlier f ++ along give (earlier ++ f ∷ []) rest

-- a row or a column, 0 where it isn't known
abbrev pub or_zero : Option ℕ → ℕ
or_zero number = unwrap_or number 0

-- ---- names in maps and sets

-- the set has these names
abbrev pub Knows : BTreeSet (Bor (List ℕ)) → List (List ℕ) → Type 0
Knows set names = (name : Bor (List ℕ)) → contains name_order set name ≡ list_any (bytes_eq name.now) names

-- what stands under a name
abbrev pub own_in : {X Y : Type 0} → BTreeMap (Bor (List ℕ)) (Vec X Y) → Bor (List ℕ) → List X
own_in files name = option_map_or (λ own. own.items) (get name_order files name) []

-- the findings under a name
abbrev pub own_parts : {Y : Type 0} → BTreeMap (Bor (List ℕ)) (Vec (Bor Finding) Y) → Bor (List ℕ) → List FindingParts
own_parts files name = map (λ it. finding_parts it.now) (own_in files name)

-- under each name stand its findings
abbrev pub AreByFile : {Y : Type 0} → BTreeMap (Bor (List ℕ)) (Vec (Bor Finding) Y) → List FindingParts → Type 0
AreByFile files findings = (name : Bor (List ℕ)) → own_parts files name ≡ filter (is_on name.now) findings
