-- The names of which the reports of a log ask.
use Rattle.std.specs.Prelude.{◌≡◌, ℕ, All, List, [], ◌∷◌, ◌++◌, flat_map, if◌then◌else◌, Option, Some, None}
use Rattle.std.specs.Borrow.{Bor}
use Rattle.std.specs.BTreeSet.{BTreeSet, contains}
use Rattle.std.specs.List.{list_any}
use Rattle.std.specs.Str.{bytes_eq}
use Rattle.found_reports.specs.Held.{Held}
use Rattle.found_reports.specs.Names.{name_order}
use Rattle.sarif_log.specs.declared.log.ColumnKind.{ColumnKind}
use Rattle.sarif_log.specs.Log.{ArtifactLocation, Invocation, Location, Log, LogResult, Names, Notification, Run}
use Rattle.sarif.specs.Findings.{Finding, Spot, findings_in, is_finding, notes_of}
use Rattle.sarif.specs.Meaning.{reports_in}
use Rattle.sarif.specs.Naming.{location_in, resolved}

abbrev pub asked_by : Names → Option (List ℕ) → Option (List ℕ) → List (List ℕ)
asked_by names base None = []
asked_by names base (Some uri) = resolved names.bases base uri ∷ uri ∷ []

-- the name of a file, and its URI as it stands
unfoldable pub asked_at : Names → ArtifactLocation → List (List ℕ)
asked_at names it = asked_by names (location_in names it).base (location_in names it).uri

abbrev pub spot_names : Names → Spot → List (List ℕ)
spot_names names spot = asked_at names spot.location.artifact

unfoldable pub finding_names : Names → Finding → List (List ℕ)
finding_names names finding = flat_map (spot_names names) (finding.locations ++ finding.related)

unfoldable pub run_names : Run → List (List ℕ)
run_names run = flat_map (finding_names run.names) (findings_in run)

-- ---- the same by what stands in the log, without what is said there

abbrev pub location_names : Names → Location → List (List ℕ)
location_names names it = asked_at names it.artifact

abbrev pub note_names : Names → Notification → List (List ℕ)
note_names names it = flat_map (location_names names) it.locations

unfoldable pub invocation_names : Names → Invocation → List (List ℕ)
invocation_names names it = flat_map (note_names names) (notes_of it)

-- none where the result is no finding
unfoldable pub result_names : Names → LogResult → List (List ℕ)
result_names names it = if is_finding it then flat_map (location_names names) (it.locations ++ it.related) else []

-- ---- all names

-- these names and one more, unless it is there
abbrev pub and_name : List (List ℕ) → List ℕ → List (List ℕ)
and_name names name = if list_any (λ other. bytes_eq other name) names then names else names ++ name ∷ []

unfoldable pub and_names : List (List ℕ) → List (List ℕ) → List (List ℕ)
and_names names [] = names
and_names names (name ∷ rest) = and_names (and_name names name) rest

-- each once, in the order in which they come
unfoldable pub names_in : Log → List (List ℕ)
names_in log = and_names [] (flat_map run_names log.runs)

-- the set has these names
abbrev pub Knows : BTreeSet (Bor (List ℕ)) → List (List ℕ) → Type 0
Knows set names = (name : Bor (List ℕ)) → contains name_order set name ≡ list_any (λ other. bytes_eq other name.now) names

-- sources that tell the same of these names give the same reports
abbrev pub DecideReports : Log → Type 0
DecideReports log =
    (told other : List ℕ → Held) (columns : Option ColumnKind) → All (λ name. told name ≡ other name) (names_in log)
    → reports_in told columns log ≡ reports_in other columns log
