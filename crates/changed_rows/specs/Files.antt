-- The files of a diff, by number.
use Rattle.std.specs.Prelude.{◌≡◌, ℕ, ◌+◌, List, [], ◌∷◌, ◌++◌, Option, Some, None, String, is_some, if◌then◌else◌}
use Rattle.std.specs.BTreeMap.{BTreeMap, get_by_text}
use Rattle.std.specs.Str.{bytes_eq}
use Rattle.std.specs.declared.alloc.Global.{Global}

-- the number, from `at` on, of a name among names
abbrev pub number_from : ℕ → List (List ℕ) → List ℕ → Option ℕ
number_from at [] name = None
number_from at (file ∷ rest) name = if bytes_eq file name then Some at else number_from (at + 1) rest name

-- files are numbered from 0
abbrev pub number_of : List (List ℕ) → List ℕ → Option ℕ
number_of files name = number_from 0 files name

-- these files, and this one after them where it is none of them
abbrev pub with_file : List (List ℕ) → List ℕ → List (List ℕ)
with_file files name = if is_some (number_of files name) then files else files ++ name ∷ []

-- the map gives the number of each name
abbrev pub AreNumbers : List (List ℕ) → BTreeMap (String Global) ℕ → Type 0
AreNumbers files numbers = (name : List ℕ) → get_by_text numbers name ≡ number_of files name
