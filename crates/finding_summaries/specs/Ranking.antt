-- Names by how often they occur.
use Rattle.std.specs.Prelude.{◌≡◌, ℕ, ◌==◌, if◌then◌else◌, Bool, All, List, count_by, unwrap_or}
use Rattle.std.specs.Borrow.{Bor}
use Rattle.std.specs.BTreeMap.{BTreeMap, get}
use Rattle.std.specs.Cmp.Lexicographic.{slice_cmp}
use Rattle.std.specs.List.Sorted.{IsSorted}
use Rattle.std.specs.Ordering.{nat_cmp, ordering_then}
use Rattle.std.specs.Str.{bytes_eq}
use Rattle.std.specs.declared.cmp.Ordering.{Ordering}
use Rattle.found_reports.specs.Names.{name_order}
use Rattle.finding_summaries.specs.declared.ranking.Row.{Row}

-- how often a name occurs among names
abbrev pub times : List ℕ → List (List ℕ) → ℕ
times name names = count_by (bytes_eq name) names

-- a name with a number
pub record Ranked : Type 0 where
  pub count : ℕ
  pub name : List ℕ

abbrev pub row_parts : Row → Ranked
row_parts row = record { count = row.count.0; name = row.name.now }

abbrev pub is_named : List ℕ → Ranked → Bool
is_named name row = bytes_eq name row.name

-- 1 if there is any, else 0
abbrev pub one_of_any : ℕ → ℕ
one_of_any count = if count == 0 then 0 else 1

-- the greater number is first, and of equal numbers the name whose bytes are first
abbrev pub rank_order : Ranked → Ranked → Ordering
rank_order a b = ordering_then (nat_cmp b.count a.count) (slice_cmp nat_cmp a.name b.name)

-- each name that occurs has one row, and no other name has one; each row says how often its name occurs
pub record AreTallied (names : List (List ℕ)) (rows : List Ranked) : Type 0 where
  pub once : (name : List ℕ) → count_by (is_named name) rows ≡ one_of_any (times name names)
  pub counted : All (λ row. row.count ≡ times row.name names) rows

-- and the rows are in order
pub record IsRanking (names : List (List ℕ)) (rows : List Ranked) : Type 0 where
  pub tallied : AreTallied names rows
  pub sorted : IsSorted rank_order rows

-- ---- counts in a map

-- the number under a name, 0 if there is none
abbrev pub count_in : BTreeMap (Bor (List ℕ)) ℕ → Bor (List ℕ) → ℕ
count_in counts name = unwrap_or (get name_order counts name) 0

-- the map has the number of each name
abbrev pub HasCounted : BTreeMap (Bor (List ℕ)) ℕ → List (List ℕ) → Type 0
HasCounted counts names = (name : Bor (List ℕ)) → count_in counts name ≡ times name.now names

-- these are the names, each once
abbrev pub AreEach : List (List ℕ) → List (List ℕ) → Type 0
AreEach each names = (name : List ℕ) → times name each ≡ one_of_any (times name names)

-- the row of a name
abbrev pub row_in : BTreeMap (Bor (List ℕ)) ℕ → Bor (List ℕ) → Ranked
row_in counts name = record { count = count_in counts name; name = name.now }
