-- The entry that counts for a name.
use Rattle.std.proofs.Common.{◌≡◌, ℕ, suc, ◌+◌, ◌<◌, Bool, true, false, if◌then◌else◌, List, [], ◌∷◌, length, map, Option, Some, None, String, string_bytes, refl, sym, subst, arith}
use Rattle.std.specs.BTreeMap.{BTreeMap, get_by_text}
use Rattle.std.specs.Str.{bytes_eq}
use Rattle.std.specs.declared.alloc.Global.{Global}
use Rattle.found_reports.specs.Held.{lacks}
use Rattle.found_reports.specs.Listed.{held_by, held_in, place_from}
use Rattle.found_reports.specs.declared.sources.Lack.TheVariants.{Missing}
use Rattle.found_reports.specs.declared.sources.Source.{Source}
use Rattle.indexed_sources.specs.Indexed.{AreKept, CountsAt}

-- nothing is kept
pub none_kept : (places : BTreeMap (String Global) ℕ) → ((name : List ℕ) → get_by_text places name ≡ None) → AreKept [] places []
none_kept places none = record { places_are = none; indexes_are = refl }

record CountsFrom (at : ℕ) (entries : List Source) (name : List ℕ) (place : ℕ) : Type 0 where
  k : ℕ
  is : place ≡ at + k
  counts : CountsAt entries name k

counts_step : (at : ℕ) (entry : Source) (rest : List Source) (name : List ℕ) (place : ℕ) (said : Bool) → bytes_eq (string_bytes entry.name) name ≡ said
    → (place_from (at + 1) rest name ≡ Some place → CountsFrom (at + 1) rest name place)
    → (if said then Some at else place_from (at + 1) rest name) ≡ Some place → CountsFrom at (entry ∷ rest) name place
counts_step at entry rest name place true says later e =
    let same : at ≡ place = cc in
    record { k = 0; is = omega (arith, same); counts = record { within = omega arith; held = rw says refl } }
counts_step at entry rest name place false says later e =
    let it = later e in
    record { k = suc it.k; is = omega (arith, it.is); counts = record { within = omega (arith, it.counts.within); held = rw says it.counts.held } }

counts_from : (at : ℕ) (entries : List Source) (name : List ℕ) (place : ℕ) → place_from at entries name ≡ Some place → CountsFrom at entries name place
counts_from at [] name place e = cc
counts_from at (entry ∷ rest) name place e =
    counts_step at entry rest name place (bytes_eq (string_bytes entry.name) name) refl (counts_from (at + 1) rest name place) e

pub counts_there : (entries : List Source) (name : List ℕ) (place : ℕ) → place_from 0 entries name ≡ Some place → CountsAt entries name place
counts_there entries name place e =
    let it = counts_from 0 entries name place e in
    let same : it.k ≡ place = omega (arith, it.is) in
    subst (CountsAt entries name) same it.counts

none_step : (at : ℕ) (entry : Source) (rest : List Source) (name : List ℕ) (said : Bool) → bytes_eq (string_bytes entry.name) name ≡ said
    → (place_from (at + 1) rest name ≡ None → held_in rest name ≡ lacks Missing)
    → (if said then Some at else place_from (at + 1) rest name) ≡ None → held_in (entry ∷ rest) name ≡ lacks Missing
none_step at entry rest name true says later e = cc
none_step at entry rest name false says later e = rw says (later e)

none_from : (at : ℕ) (entries : List Source) (name : List ℕ) → place_from at entries name ≡ None → held_in entries name ≡ lacks Missing
none_from at [] name e = refl
none_from at (entry ∷ rest) name e = none_step at entry rest name (bytes_eq (string_bytes entry.name) name) refl (none_from (at + 1) rest name) e

pub none_there : (entries : List Source) (name : List ℕ) → place_from 0 entries name ≡ None → held_in entries name ≡ lacks Missing
none_there entries name e = none_from 0 entries name e
