-- What a run found.
use Rattle.std.specs.Prelude.{ℕ, ◌&&◌, ◌||◌, Bool, true, false, not, List, [], ◌∷◌, ◌++◌, map, filter, flat_map, if◌then◌else◌, Option, Some, None, option_map, option_and_then, unwrap_or, string_bytes}
use Rattle.std.specs.List.{list_all}
use Rattle.std.specs.Option.{option_or}
use Rattle.sarif_log.specs.declared.log.Region.{Region}
use Rattle.sarif_log.specs.declared.log.Level.{Level}
use Rattle.sarif_log.specs.declared.log.Level.TheVariants as levels
use Rattle.sarif_log.specs.declared.log.ResultKind.{ResultKind}
use Rattle.sarif_log.specs.declared.log.ResultKind.TheVariants.{NotApplicable, Pass, Fail, Review, Open, Informational}
use Rattle.sarif_log.specs.declared.log.BaselineState.{BaselineState}
use Rattle.sarif_log.specs.declared.log.BaselineState.TheVariants as baseline
use Rattle.sarif_log.specs.declared.log.Status.{Status}
use Rattle.sarif_log.specs.declared.log.Status.TheVariants as statuses
use Rattle.sarif_log.specs.declared.log.Suppression.{Suppression}
use Rattle.sarif_log.specs.Log.{ArtifactLocation, Invocation, Location, LogResult, Notification, Rule, Run, location_view}
use Rattle.sarif.specs.Rules.{Strings, component_of, rule_in, some_text, text_of}
use Rattle.sarif.specs.declared.findings.Finding as code
use Rattle.sarif.specs.declared.findings.Spot as code_spot

-- a location, and what is said there
pub record Spot : Type 0 where
  pub location : Location
  pub message : Option (List ℕ)

-- how grave it is, the number and the address of its rule, what it says, and where
pub record Finding : Type 0 where
  pub level : Level
  pub number : Option (List ℕ)
  pub url : Option (List ℕ)
  pub message : List ℕ
  pub locations : List Spot
  pub related : List Spot

abbrev pub spot_at : Strings → Location → Spot
spot_at strings it = record { location = it; message = text_of strings it.message }

-- ---- results

abbrev pub unless_other : Option Status → Bool
unless_other None = true
unless_other (Some statuses.Accepted) = true
unless_other (Some statuses.UnderReview) = false
unless_other (Some statuses.Rejected) = false

abbrev pub is_accepted : Suppression → Bool
is_accepted it = unless_other it.status

-- suppressed is what has suppressions, all of them accepted
unfoldable pub is_suppressed : List Suppression → Bool
is_suppressed [] = false
is_suppressed (it ∷ rest) = list_all is_accepted (it ∷ rest)

abbrev pub is_absent : Option BaselineState → Bool
is_absent None = false
is_absent (Some baseline.New) = false
is_absent (Some baseline.Unchanged) = false
is_absent (Some baseline.Updated) = false
is_absent (Some baseline.Absent) = true

-- nothing was found: the rule passed, or had nothing to judge
abbrev pub is_passed : Option ResultKind → Bool
is_passed None = false
is_passed (Some NotApplicable) = true
is_passed (Some Pass) = true
is_passed (Some Fail) = false
is_passed (Some Review) = false
is_passed (Some Open) = false
is_passed (Some Informational) = false

unfoldable pub is_finding : LogResult → Bool
is_finding it = not (is_suppressed it.suppressions) && (not (is_absent it.baseline) && not (is_passed it.kind))

abbrev pub level_in : Option Rule → Option Level
level_in None = None
level_in (Some rule) = rule.level

-- a kind that is there and isn't `fail` has no level; else the result's own counts, else the rule's, else `warning`
abbrev pub level_by : Option ResultKind → Option Level → Option Level → Level
level_by None own rules = unwrap_or (option_or own rules) levels.Warning
level_by (Some NotApplicable) own rules = levels.None
level_by (Some Pass) own rules = levels.None
level_by (Some Fail) own rules = unwrap_or (option_or own rules) levels.Warning
level_by (Some Review) own rules = levels.None
level_by (Some Open) own rules = levels.None
level_by (Some Informational) own rules = levels.None

abbrev pub id_of : LogResult → Option (List ℕ)
id_of it = option_or it.rule_id it.rule.id

abbrev pub id_in : Option Rule → Option (List ℕ)
id_in None = None
id_in (Some rule) = rule.id

abbrev pub url_in : Option Rule → Option (List ℕ)
url_in None = None
url_in (Some rule) = some_text rule.help_uri

-- the number is the result's id, else the rule's, where they aren't empty
abbrev pub number_by : Option (List ℕ) → Option Rule → Option (List ℕ)
number_by id rule = option_or (some_text id) (some_text (id_in rule))

unfoldable pub strings_of : Run → LogResult → Strings
strings_of run it =
    let component = component_of run.tool it.rule in
    record { rule = rule_in component (option_or it.rule.index it.rule_index) (id_of it); component = component }

unfoldable pub found_by : Strings → LogResult → Finding
found_by strings it =
    record {
      level = level_by it.kind it.level (level_in strings.rule);
      number = number_by (id_of it) strings.rule;
      url = url_in strings.rule;
      message = unwrap_or (text_of strings it.message) [];
      locations = map (spot_at strings) it.locations;
      related = map (spot_at strings) it.related;
    }

unfoldable pub found_in : Run → LogResult → Finding
found_in run it = found_by (strings_of run it) it

-- ---- what a tool says of its own run

abbrev pub driver_strings : Run → Strings
driver_strings run = record { rule = None; component = Some run.tool.driver }

unfoldable pub noted_by : Strings → Notification → Finding
noted_by strings it =
    record {
      level = unwrap_or it.level levels.Warning;
      number = some_text it.descriptor.id;
      url = None;
      message = unwrap_or (text_of strings it.message) [];
      locations = map (spot_at strings) it.locations;
      related = [];
    }

abbrev pub notes_of : Invocation → List Notification
notes_of it = it.configuration ++ it.execution

-- call by call: of its configuration, and then of its execution
abbrev pub noted_in : Strings → Invocation → List Finding
noted_in strings it = map (noted_by strings) (notes_of it)

-- ---- the run

-- notifications first, as the run has them, and then the results that are findings
unfoldable pub findings_in : Run → List Finding
findings_in run =
    flat_map (noted_in (driver_strings run)) run.invocations
    ++ map (found_in run) (filter is_finding run.results)

-- ---- the code's

abbrev pub spot_view : code_spot.Spot → Spot
spot_view it = record { location = location_view it.location.now; message = option_map string_bytes it.message }

unfoldable pub finding_view : code.Finding → Finding
finding_view it =
    record {
      level = it.level;
      number = option_map (λ text. text.now) it.number;
      url = option_map (λ text. text.now) it.url;
      message = string_bytes it.message;
      locations = map spot_view it.locations.items;
      related = map spot_view it.related.items;
    }
