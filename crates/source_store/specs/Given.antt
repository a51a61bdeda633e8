-- What a store gave of names.
use Rattle.std.specs.Prelude.{◌≡◌, ⊤, ℕ, List, ◌++◌, true, Option, Some, None, All, string_bytes}
use Rattle.found_reports.specs.Held.{Held, holds, lacks}
use Rattle.found_reports.specs.Listed.{fitting, held_by, listed}
use Rattle.found_reports.specs.declared.sources.Lack.TheVariants.{Missing}
use Rattle.found_reports.specs.declared.sources.Source.{Source}
use Rattle.source_store.specs.Named.{path_in}
use Rattle.source_store.specs.declared.named.Spelling.{Spelling}

abbrev pub told_at : (List ℕ → Option Held) → Option (List ℕ) → Option Held
told_at told None = Some (lacks Missing)
told_at told (Some path) = told path

-- what is told of a name: what is told of the path that it means; a name that means none is missing
abbrev pub told_of : (List ℕ → Option Held) → Spelling → List ℕ → Option Held
told_of told spelling name = told_at told (path_in spelling name)

-- what is held, with a text that is too long for places in 32 bits as one that lacks
abbrev pub fitted : Held → Held
fitted (holds text) = fitting text
fitted (lacks why) = lacks why

-- what is given is what was told, where something was
abbrev pub IsSaid : Option Held → Held → Type 0
IsSaid None given = ⊤
IsSaid (Some held) given = given ≡ fitted held

-- of each of the names it is
abbrev pub IsGiven : (List ℕ → Option Held) → Spelling → List (List ℕ) → (List ℕ → Held) → Type 0
IsGiven told spelling names given = All (λ name. IsSaid (told_of told spelling name) (given name)) names

-- a source has a name's text as it was told
abbrev pub MeetsTold : (List ℕ → Option Held) → Spelling → Source → Type 0
MeetsTold told spelling source = IsSaid (told_of told spelling (string_bytes source.name)) (held_by source)

-- sources were added as they were told, and one of them or of those before has the name
pub record Adds (told : List ℕ → Option Held) (spelling : Spelling) (before now : List Source) (name : List ℕ) : Type 0 where
  pub more : List Source
  pub is : now ≡ before ++ more
  pub told_so : All (MeetsTold told spelling) more
  pub there : listed now name ≡ true

-- the same of many names: each of them has a source now
pub record AddsAll (told : List ℕ → Option Held) (spelling : Spelling) (before now : List Source) (names : List (List ℕ)) : Type 0 where
  pub more : List Source
  pub is : now ≡ before ++ more
  pub told_so : All (MeetsTold told spelling) more
  pub there : All (λ name. listed now name ≡ true) names
