-- The names of files: a URI with its bases before it.
use Rattle.std.specs.Prelude.{ℕ, zero, suc, ◌-◌, ◌==◌, ◌||◌, Bool, not, List, [], ◌∷◌, ◌++◌, length, take_while, if◌then◌else◌, Option, Some, None, option_map, option_and_then, slice_get, slice_index}
use Rattle.std.specs.List.{list_any}
use Rattle.std.specs.Option.{option_or}
use Rattle.std.specs.Str.{bytes_eq}
use Rattle.sarif_log.specs.Log.{Artifact, ArtifactLocation, Names, UriBase}

-- ---- what a reference to a file stands for

abbrev pub artifact_at : Names → Option ℕ → Option Artifact
artifact_at names index = option_and_then (slice_get names.artifacts) index

abbrev pub location_of : Option Artifact → ArtifactLocation → ArtifactLocation
location_of None it = it
location_of (Some artifact) it = artifact.location

abbrev pub location_by : Option (List ℕ) → Names → ArtifactLocation → ArtifactLocation
location_by None names it = location_of (artifact_at names it.index) it
location_by (Some uri) names it = it

-- one that has no URI is the location of the artifact that it numbers
unfoldable pub location_in : Names → ArtifactLocation → ArtifactLocation
location_in names it = location_by it.uri names it

-- ---- bases

-- the base of a name: the last of them counts
unfoldable pub base_named : List UriBase → List ℕ → Option UriBase
base_named [] name = None
base_named (it ∷ rest) name = option_or (base_named rest name) (if bytes_eq it.name name then Some it else None)

abbrev pub is_slash : ℕ → Bool
is_slash byte = byte == 0x2F

abbrev pub is_colon : ℕ → Bool
is_colon byte = byte == 0x3A

-- a URI stands by itself: it begins with a slash, or a colon stands before its first slash
unfoldable pub stands_alone : List ℕ → Bool
stands_alone uri = is_slash (slice_index uri 0) || list_any is_colon (take_while (λ byte. not (is_slash byte)) uri)

-- the base that comes next before a URI: none where the URI stands by itself, or where the base is missing or came before
abbrev pub next_base : List UriBase → List (List ℕ) → Option (List ℕ) → List ℕ → Option UriBase
next_base bases used None uri = None
next_base bases used (Some base) uri =
    if stands_alone uri || list_any (λ name. bytes_eq name base) used then None else base_named bases base

-- a URI ends in a slash, or is empty
abbrev pub ends_a_part : List ℕ → Bool
ends_a_part uri = length uri == 0 || is_slash (slice_index uri (length uri - 1))

-- the URI of a base with a slash behind it, nothing where it is empty
abbrev pub with_slash : List ℕ → List ℕ
with_slash uri = if ends_a_part uri then uri else uri ++ 0x2F ∷ []

unfoldable pub front_of : Option (List ℕ) → List ℕ
front_of None = []
front_of (Some uri) = with_slash uri

abbrev pub with_base : Option UriBase → List ℕ → (UriBase → List ℕ) → List ℕ
with_base None uri behind = uri
with_base (Some it) uri behind = behind it

-- a URI with its base before it, and that one's base, each once and so many at most
unfoldable pub resolved_in : ℕ → List UriBase → List (List ℕ) → Option (List ℕ) → List ℕ → List ℕ
resolved_in zero bases used base uri = uri
resolved_in (suc steps) bases used base uri =
    with_base (next_base bases used base uri) uri
    (λ it. resolved_in steps bases (used ++ it.name ∷ []) it.location.base (front_of it.location.uri ++ uri))

abbrev pub resolved : List UriBase → Option (List ℕ) → List ℕ → List ℕ
resolved bases base uri = resolved_in (length bases) bases [] base uri

abbrev pub resolved_location : List UriBase → ArtifactLocation → Option (List ℕ)
resolved_location bases it = option_map (resolved bases it.base) it.uri

-- the name of the file that a reference stands for
unfoldable pub name_of : Names → ArtifactLocation → Option (List ℕ)
name_of names it = resolved_location names.bases (location_in names it)
