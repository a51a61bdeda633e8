-- What a list of sources holds.
use Rattle.std.specs.Prelude.{◌≡◌, ℕ, ◌+◌, Bool, List, [], ◌∷◌, Option, Some, None, Result, Ok, Err, String, Vec, string_bytes, length, nat_lt, if◌then◌else◌}
use Rattle.std.specs.BTreeMap.{BTreeMap, get_by_text}
use Rattle.std.specs.List.{list_any}
use Rattle.std.specs.Str.{bytes_eq}
use Rattle.std.specs.declared.alloc.Global.{Global}
use Rattle.found_reports.specs.Held.{Held, holds, lacks}
use Rattle.found_reports.specs.declared.sources.Lack.{Lack}
use Rattle.found_reports.specs.declared.sources.Lack.TheVariants.{Missing, TooLong}
use Rattle.found_reports.specs.declared.sources.Source.{Source}

-- a text, unless it is too long for places in 32 bits
abbrev pub fitting : List ℕ → Held
fitting text = if nat_lt (length text) 4294967295 then holds text else lacks TooLong

abbrev pub held_as : Result (String Global) Lack → Held
held_as (Ok text) = fitting (string_bytes text)
held_as (Err why) = lacks why

abbrev pub held_by : Source → Held
held_by entry = held_as entry.text

-- of the first entry of a name
abbrev pub held_in : List Source → List ℕ → Held
held_in [] name = lacks Missing
held_in (entry ∷ rest) name = if bytes_eq (string_bytes entry.name) name then held_by entry else held_in rest name

-- there is an entry of a name
abbrev pub listed : List Source → List ℕ → Bool
listed entries name = list_any (λ entry. bytes_eq (string_bytes entry.name) name) entries

-- what contracts see of a list of sources
pub record Listed : Type 0 where
  pub entries : Vec Source Global

-- the first entry of a name
abbrev pub first_in : List Source → List ℕ → Option Source
first_in [] name = None
first_in (entry ∷ rest) name = if bytes_eq (string_bytes entry.name) name then Some entry else first_in rest name

-- the place, from `at` on, of the first entry of a name
abbrev pub place_from : ℕ → List Source → List ℕ → Option ℕ
place_from at [] name = None
place_from at (entry ∷ rest) name = if bytes_eq (string_bytes entry.name) name then Some at else place_from (at + 1) rest name

-- the map tells of each name where its first entry stands
abbrev pub ArePlaces : ℕ → List Source → BTreeMap (String Global) ℕ → Type 0
ArePlaces at entries places = (name : List ℕ) → get_by_text places name ≡ place_from at entries name
