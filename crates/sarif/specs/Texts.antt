-- The texts of files: what the log itself has, else what sources tell.
use Rattle.std.specs.Prelude.{ℕ, Bool, false, List, [], ◌∷◌, if◌then◌else◌, Option, Some, None, option_map, option_and_then}
use Rattle.std.specs.Option.{option_or}
use Rattle.std.specs.Str.{bytes_eq}
use Rattle.sarif_log.specs.Log.{Artifact, ArtifactLocation, Names}
use Rattle.found_reports.specs.Found.{NamedHeld}
use Rattle.found_reports.specs.Held.{Held, holds, lacks}
use Rattle.found_reports.specs.Listed.{fitting}
use Rattle.found_reports.specs.declared.sources.Lack.{Lack}
use Rattle.sarif.specs.Naming.{artifact_at, location_in, name_of, resolved}

abbrev pub is_name : Option (List ℕ) → List ℕ → Bool
is_name None name = false
is_name (Some other) name = bytes_eq other name

abbrev pub contents_if : Names → List ℕ → Artifact → Option (List ℕ)
contents_if names name it = if is_name (name_of names it.location) name then it.contents else None

-- the contents of the first artifact of a name that has some
unfoldable pub contents_named : Names → List ℕ → List Artifact → Option (List ℕ)
contents_named names name [] = None
contents_named names name (it ∷ rest) = option_or (contents_if names name it) (contents_named names name rest)

-- what the log has: of the artifact that is numbered, else of one of the name
unfoldable pub contents_in : Names → ArtifactLocation → List ℕ → Option (List ℕ)
contents_in names it name =
    option_or (option_and_then (λ artifact. artifact.contents) (artifact_at names it.index)) (contents_named names name names.artifacts)

abbrev pub named : List ℕ → Held → NamedHeld
named name held = record { name = name; held = held }

-- what is told of the URI as it stands counts only where it is a text
abbrev pub told_second : List ℕ → List ℕ → Lack → Held → NamedHeld
told_second name uri why (holds text) = named uri (holds text)
told_second name uri why (lacks other) = named name (lacks why)

abbrev pub told_first : List ℕ → List ℕ → Held → Held → NamedHeld
told_first name uri (holds text) second = named name (holds text)
told_first name uri (lacks why) second = told_second name uri why second

-- the text of a name, else that of the URI as it stands, under whichever of them has one
unfoldable pub told_of : (List ℕ → Held) → List ℕ → List ℕ → NamedHeld
told_of told name uri = told_first name uri (told name) (told uri)

abbrev pub held_or_told : (List ℕ → Held) → List ℕ → List ℕ → Option (List ℕ) → NamedHeld
held_or_told told name uri None = told_of told name uri
held_or_told told name uri (Some contents) = named name (fitting contents)

abbrev pub source_under : (List ℕ → Held) → Names → ArtifactLocation → List ℕ → List ℕ → NamedHeld
source_under told names it name uri = held_or_told told name uri (contents_in names it name)

abbrev pub source_by : (List ℕ → Held) → Names → ArtifactLocation → ArtifactLocation → Option NamedHeld
source_by told names it place =
    option_map (λ uri. source_under told names it (resolved names.bases place.base uri) uri) place.uri

-- the file that a reference stands for, with its text: none where it has no URI
unfoldable pub source_of : (List ℕ → Held) → Names → ArtifactLocation → Option NamedHeld
source_of told names it = source_by told names it (location_in names it)
