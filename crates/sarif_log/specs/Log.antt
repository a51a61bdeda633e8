-- What a log says: each object by its keys, where a key that is left out says nothing.
use Rattle.std.specs.Prelude.{ℕ, List, [], ◌∷◌, map, if◌then◌else◌, Option, Some, None, option_map, option_and_then, unwrap_or, codes, String, string_bytes}
use Rattle.std.specs.Str.{bytes_eq}
use Rattle.std.specs.declared.alloc.Global.{Global}
use Rattle.std.specs.Borrow.{Bor}
use Rattle.json.specs.Json.{Json, null, boolean, number, string, array, object, Items, no_items, item, Members, no_members, member}
use Rattle.json.specs.Find.{get, as_str, as_number}
use Rattle.json.specs.Value.{value_view}
use Rattle.json.specs.declared.value.Value.{Value}
use Rattle.numerals.specs.Numerals.{number_in}
use Rattle.sarif_log.specs.declared.log.Log as code_log
use Rattle.sarif_log.specs.declared.log.Message as code_message
use Rattle.sarif_log.specs.declared.log.ArtifactLocation as code_artifact_location
use Rattle.sarif_log.specs.declared.log.Region.{Region}
use Rattle.sarif_log.specs.declared.log.Location as code_location
use Rattle.sarif_log.specs.declared.log.RuleRef as code_rule_ref
use Rattle.sarif_log.specs.declared.log.NamedMessage as code_named_message
use Rattle.sarif_log.specs.declared.log.UriBase as code_uri_base
use Rattle.sarif_log.specs.declared.log.Rule as code_rule
use Rattle.sarif_log.specs.declared.log.Component as code_component
use Rattle.sarif_log.specs.declared.log.Suppression.{Suppression}
use Rattle.sarif_log.specs.declared.log.Replacement as code_replacement
use Rattle.sarif_log.specs.declared.log.Change as code_change
use Rattle.sarif_log.specs.declared.log.Fix as code_fix
use Rattle.sarif_log.specs.declared.log.LogResult as code_result
use Rattle.sarif_log.specs.declared.log.Notification as code_notification
use Rattle.sarif_log.specs.declared.log.Invocation as code_invocation
use Rattle.sarif_log.specs.declared.log.Artifact as code_artifact
use Rattle.sarif_log.specs.declared.log.Tool as code_tool
use Rattle.sarif_log.specs.declared.log.Counting as code_counting
use Rattle.sarif_log.specs.declared.log.Names as code_names
use Rattle.sarif_log.specs.declared.log.Run as code_run
use Rattle.sarif_log.specs.declared.log.Level.{Level}
use Rattle.sarif_log.specs.declared.log.Level.TheVariants as levels
use Rattle.sarif_log.specs.declared.log.ColumnKind.{ColumnKind}
use Rattle.sarif_log.specs.declared.log.ColumnKind.TheVariants as column_kinds
use Rattle.sarif_log.specs.declared.log.ResultKind.{ResultKind}
use Rattle.sarif_log.specs.declared.log.ResultKind.TheVariants as result_kinds
use Rattle.sarif_log.specs.declared.log.BaselineState.{BaselineState}
use Rattle.sarif_log.specs.declared.log.BaselineState.TheVariants as baseline_states
use Rattle.sarif_log.specs.declared.log.Status.{Status}
use Rattle.sarif_log.specs.declared.log.Status.TheVariants as statuses

-- ---- what stands under a key

abbrev pub under : List ℕ → Option Json → Option Json
under key it = option_and_then (get key) it

unfoldable pub text_at : List ℕ → Option Json → Option (List ℕ)
text_at key it = option_and_then as_str (under key it)

unfoldable pub whole_at : List ℕ → Option Json → Option ℕ
whole_at key it = option_and_then number_in (option_and_then as_number (under key it))

abbrev pub list_of : Items → List Json
list_of no_items = []
list_of (item value rest) = value ∷ list_of rest

-- the items of an array, and of nothing else
abbrev pub items_of : Json → List Json
items_of null = []
items_of (boolean b) = []
items_of (number text) = []
items_of (string text) = []
items_of (array items) = list_of items
items_of (object _) = []

unfoldable pub list_at : List ℕ → Option Json → List Json
list_at key it = unwrap_or (option_map items_of (under key it)) []

unfoldable pub texts_of : List Json → List (List ℕ)
texts_of list = map (λ value. unwrap_or (as_str value) []) list

unfoldable pub texts_at : List ℕ → Option Json → Option (List (List ℕ))
texts_at key it = option_map (λ value. texts_of (items_of value)) (under key it)

-- the members of an object, and of nothing else, as they stand
pub record Member : Type 0 where
  pub name : List ℕ
  pub value : Json

abbrev pub member_list : Members → List Member
member_list no_members = []
member_list (member name value rest) = record { name = name; value = value } ∷ member_list rest

abbrev pub members_of : Json → List Member
members_of null = []
members_of (boolean b) = []
members_of (number text) = []
members_of (string text) = []
members_of (array items) = []
members_of (object members) = member_list members

unfoldable pub members_at : List ℕ → Option Json → List Member
members_at key it = unwrap_or (option_map members_of (under key it)) []

abbrev pub seen : Option (Bor (Value Global)) → Option Json
seen it = option_map (λ value. value_view value.now) it

abbrev pub member_view : Bor (List ℕ) × Value Global → Member
member_view it = record { name = it.0.now; value = value_view it.1 }

-- ---- words

abbrev pub level_named : List ℕ → Option Level
level_named text =
    if bytes_eq text (codes "none") then Some levels.None
    else if bytes_eq text (codes "note") then Some levels.Note
    else if bytes_eq text (codes "warning") then Some levels.Warning
    else if bytes_eq text (codes "error") then Some levels.Error
    else None

unfoldable pub level_at : List ℕ → Option Json → Option Level
level_at key it = option_and_then level_named (option_and_then as_str (under key it))

abbrev pub column_kind_named : List ℕ → Option ColumnKind
column_kind_named text =
    if bytes_eq text (codes "utf16CodeUnits") then Some column_kinds.Utf16
    else if bytes_eq text (codes "unicodeCodePoints") then Some column_kinds.Characters
    else None

unfoldable pub column_kind_at : List ℕ → Option Json → Option ColumnKind
column_kind_at key it = option_and_then column_kind_named (option_and_then as_str (under key it))

abbrev pub result_kind_named : List ℕ → Option ResultKind
result_kind_named text =
    if bytes_eq text (codes "notApplicable") then Some result_kinds.NotApplicable
    else if bytes_eq text (codes "pass") then Some result_kinds.Pass
    else if bytes_eq text (codes "fail") then Some result_kinds.Fail
    else if bytes_eq text (codes "review") then Some result_kinds.Review
    else if bytes_eq text (codes "open") then Some result_kinds.Open
    else if bytes_eq text (codes "informational") then Some result_kinds.Informational
    else None

unfoldable pub result_kind_at : List ℕ → Option Json → Option ResultKind
result_kind_at key it = option_and_then result_kind_named (option_and_then as_str (under key it))

abbrev pub baseline_state_named : List ℕ → Option BaselineState
baseline_state_named text =
    if bytes_eq text (codes "new") then Some baseline_states.New
    else if bytes_eq text (codes "unchanged") then Some baseline_states.Unchanged
    else if bytes_eq text (codes "updated") then Some baseline_states.Updated
    else if bytes_eq text (codes "absent") then Some baseline_states.Absent
    else None

unfoldable pub baseline_state_at : List ℕ → Option Json → Option BaselineState
baseline_state_at key it = option_and_then baseline_state_named (option_and_then as_str (under key it))

abbrev pub status_named : List ℕ → Option Status
status_named text =
    if bytes_eq text (codes "accepted") then Some statuses.Accepted
    else if bytes_eq text (codes "underReview") then Some statuses.UnderReview
    else if bytes_eq text (codes "rejected") then Some statuses.Rejected
    else None

unfoldable pub status_at : List ℕ → Option Json → Option Status
status_at key it = option_and_then status_named (option_and_then as_str (under key it))

-- ---- objects

pub record Message : Type 0 where
  pub text : Option (List ℕ)
  pub id : Option (List ℕ)
  pub arguments : Option (List (List ℕ))

unfoldable pub message_of : Option Json → Message
message_of it =
    record {
      text = text_at (codes "text") it;
      id = text_at (codes "id") it;
      arguments = texts_at (codes "arguments") it;
    }

pub record ArtifactLocation : Type 0 where
  pub uri : Option (List ℕ)
  pub base : Option (List ℕ)
  pub index : Option ℕ

unfoldable pub artifact_location_of : Option Json → ArtifactLocation
artifact_location_of it =
    record {
      uri = text_at (codes "uri") it;
      base = text_at (codes "uriBaseId") it;
      index = whole_at (codes "index") it;
    }

unfoldable pub region_of : Option Json → Option Region
region_of it =
    option_map (λ value. record {
      start_line = whole_at (codes "startLine") (Some value);
      start_column = whole_at (codes "startColumn") (Some value);
      end_line = whole_at (codes "endLine") (Some value);
      end_column = whole_at (codes "endColumn") (Some value);
      char_offset = whole_at (codes "charOffset") (Some value);
      char_length = whole_at (codes "charLength") (Some value);
      byte_offset = whole_at (codes "byteOffset") (Some value);
      byte_length = whole_at (codes "byteLength") (Some value);
    }) it

pub record Location : Type 0 where
  pub artifact : ArtifactLocation
  pub region : Option Region
  pub message : Message

unfoldable pub location_of : Option Json → Location
location_of it =
    record {
      artifact = artifact_location_of (under (codes "artifactLocation") (under (codes "physicalLocation") it));
      region = region_of (under (codes "region") (under (codes "physicalLocation") it));
      message = message_of (under (codes "message") it);
    }

unfoldable pub locations_of : List Json → List Location
locations_of list = map (λ value. location_of (Some value)) list

pub record RuleRef : Type 0 where
  pub id : Option (List ℕ)
  pub index : Option ℕ
  pub extension : Option ℕ

unfoldable pub rule_ref_of : Option Json → RuleRef
rule_ref_of it =
    record {
      id = text_at (codes "id") it;
      index = whole_at (codes "index") it;
      extension = whole_at (codes "index") (under (codes "toolComponent") it);
    }

pub record NamedMessage : Type 0 where
  pub name : List ℕ
  pub message : Message

unfoldable pub named_message_of : Member → NamedMessage
named_message_of it = record { name = it.name; message = message_of (Some it.value) }

unfoldable pub named_messages_of : List Member → List NamedMessage
named_messages_of list = map named_message_of list

pub record UriBase : Type 0 where
  pub name : List ℕ
  pub location : ArtifactLocation

unfoldable pub uri_base_of : Member → UriBase
uri_base_of it = record { name = it.name; location = artifact_location_of (Some it.value) }

unfoldable pub uri_bases_of : List Member → List UriBase
uri_bases_of list = map uri_base_of list

pub record Rule : Type 0 where
  pub id : Option (List ℕ)
  pub help_uri : Option (List ℕ)
  pub level : Option Level
  pub messages : List NamedMessage

unfoldable pub rule_of : Option Json → Rule
rule_of it =
    record {
      id = text_at (codes "id") it;
      help_uri = text_at (codes "helpUri") it;
      level = level_at (codes "level") (under (codes "defaultConfiguration") it);
      messages = named_messages_of (members_at (codes "messageStrings") it);
    }

unfoldable pub rules_of : List Json → List Rule
rules_of list = map (λ value. rule_of (Some value)) list

pub record Component : Type 0 where
  pub name : Option (List ℕ)
  pub rules : List Rule
  pub messages : List NamedMessage

unfoldable pub component_of : Option Json → Component
component_of it =
    record {
      name = text_at (codes "name") it;
      rules = rules_of (list_at (codes "rules") it);
      messages = named_messages_of (members_at (codes "globalMessageStrings") it);
    }

unfoldable pub components_of : List Json → List Component
components_of list = map (λ value. component_of (Some value)) list

unfoldable pub suppression_of : Option Json → Suppression
suppression_of it =
    record {
      status = status_at (codes "status") it;
    }

unfoldable pub suppressions_of : List Json → List Suppression
suppressions_of list = map (λ value. suppression_of (Some value)) list

pub record Replacement : Type 0 where
  pub deleted : Option Region
  pub inserted : Option (List ℕ)

unfoldable pub replacement_of : Option Json → Replacement
replacement_of it =
    record {
      deleted = region_of (under (codes "deletedRegion") it);
      inserted = text_at (codes "text") (under (codes "insertedContent") it);
    }

unfoldable pub replacements_of : List Json → List Replacement
replacements_of list = map (λ value. replacement_of (Some value)) list

pub record Change : Type 0 where
  pub artifact : ArtifactLocation
  pub replacements : List Replacement

unfoldable pub change_of : Option Json → Change
change_of it =
    record {
      artifact = artifact_location_of (under (codes "artifactLocation") it);
      replacements = replacements_of (list_at (codes "replacements") it);
    }

unfoldable pub changes_of : List Json → List Change
changes_of list = map (λ value. change_of (Some value)) list

pub record Fix : Type 0 where
  pub changes : List Change

unfoldable pub fix_of : Option Json → Fix
fix_of it =
    record {
      changes = changes_of (list_at (codes "artifactChanges") it);
    }

unfoldable pub fixes_of : List Json → List Fix
fixes_of list = map (λ value. fix_of (Some value)) list

pub record LogResult : Type 0 where
  pub rule_id : Option (List ℕ)
  pub rule_index : Option ℕ
  pub rule : RuleRef
  pub level : Option Level
  pub kind : Option ResultKind
  pub message : Message
  pub locations : List Location
  pub related : List Location
  pub suppressions : List Suppression
  pub baseline : Option BaselineState
  pub fixes : List Fix

unfoldable pub log_result_of : Option Json → LogResult
log_result_of it =
    record {
      rule_id = text_at (codes "ruleId") it;
      rule_index = whole_at (codes "ruleIndex") it;
      rule = rule_ref_of (under (codes "rule") it);
      level = level_at (codes "level") it;
      kind = result_kind_at (codes "kind") it;
      message = message_of (under (codes "message") it);
      locations = locations_of (list_at (codes "locations") it);
      related = locations_of (list_at (codes "relatedLocations") it);
      suppressions = suppressions_of (list_at (codes "suppressions") it);
      baseline = baseline_state_at (codes "baselineState") it;
      fixes = fixes_of (list_at (codes "fixes") it);
    }

unfoldable pub log_results_of : List Json → List LogResult
log_results_of list = map (λ value. log_result_of (Some value)) list

pub record Notification : Type 0 where
  pub descriptor : RuleRef
  pub level : Option Level
  pub message : Message
  pub locations : List Location

unfoldable pub notification_of : Option Json → Notification
notification_of it =
    record {
      descriptor = rule_ref_of (under (codes "descriptor") it);
      level = level_at (codes "level") it;
      message = message_of (under (codes "message") it);
      locations = locations_of (list_at (codes "locations") it);
    }

unfoldable pub notifications_of : List Json → List Notification
notifications_of list = map (λ value. notification_of (Some value)) list

pub record Invocation : Type 0 where
  pub configuration : List Notification
  pub execution : List Notification

unfoldable pub invocation_of : Option Json → Invocation
invocation_of it =
    record {
      configuration = notifications_of (list_at (codes "toolConfigurationNotifications") it);
      execution = notifications_of (list_at (codes "toolExecutionNotifications") it);
    }

unfoldable pub invocations_of : List Json → List Invocation
invocations_of list = map (λ value. invocation_of (Some value)) list

pub record Artifact : Type 0 where
  pub location : ArtifactLocation
  pub contents : Option (List ℕ)

unfoldable pub artifact_of : Option Json → Artifact
artifact_of it =
    record {
      location = artifact_location_of (under (codes "location") it);
      contents = text_at (codes "text") (under (codes "contents") it);
    }

unfoldable pub artifacts_of : List Json → List Artifact
artifacts_of list = map (λ value. artifact_of (Some value)) list

pub record Tool : Type 0 where
  pub driver : Component
  pub extensions : List Component

unfoldable pub tool_of : Option Json → Tool
tool_of it =
    record {
      driver = component_of (under (codes "driver") it);
      extensions = components_of (list_at (codes "extensions") it);
    }

pub record Counting : Type 0 where
  pub newline_sequences : Option (List (List ℕ))
  pub columns : Option ColumnKind

unfoldable pub counting_of : Option Json → Counting
counting_of it =
    record {
      newline_sequences = texts_at (codes "newlineSequences") it;
      columns = column_kind_at (codes "columnKind") it;
    }

pub record Names : Type 0 where
  pub bases : List UriBase
  pub artifacts : List Artifact

unfoldable pub names_of : Option Json → Names
names_of it =
    record {
      bases = uri_bases_of (members_at (codes "originalUriBaseIds") it);
      artifacts = artifacts_of (list_at (codes "artifacts") it);
    }

pub record Run : Type 0 where
  pub tool : Tool
  pub counting : Counting
  pub names : Names
  pub invocations : List Invocation
  pub results : List LogResult

unfoldable pub run_of : Option Json → Run
run_of it =
    record {
      tool = tool_of (under (codes "tool") it);
      counting = counting_of it;
      names = names_of it;
      invocations = invocations_of (list_at (codes "invocations") it);
      results = log_results_of (list_at (codes "results") it);
    }

unfoldable pub runs_of : List Json → List Run
runs_of list = map (λ value. run_of (Some value)) list

pub record Log : Type 0 where
  pub runs : List Run

unfoldable pub log_of : Json → Log
log_of it = record { runs = runs_of (list_at (codes "runs") (Some it)) }

-- ---- what contracts see of the code's values

abbrev pub text_view : Option (String Global) → Option (List ℕ)
text_view it = option_map string_bytes it

unfoldable pub message_view : code_message.Message → Message
message_view it =
    record {
      text = text_view it.text;
      id = text_view it.id;
      arguments = option_map (λ list. map string_bytes list.items) it.arguments;
    }

unfoldable pub artifact_location_view : code_artifact_location.ArtifactLocation → ArtifactLocation
artifact_location_view it =
    record {
      uri = text_view it.uri;
      base = text_view it.base;
      index = it.index;
    }

unfoldable pub location_view : code_location.Location → Location
location_view it =
    record {
      artifact = artifact_location_view it.artifact;
      region = it.region;
      message = message_view it.message;
    }

unfoldable pub rule_ref_view : code_rule_ref.RuleRef → RuleRef
rule_ref_view it =
    record {
      id = text_view it.id;
      index = it.index;
      extension = it.extension;
    }

unfoldable pub named_message_view : code_named_message.NamedMessage → NamedMessage
named_message_view it =
    record {
      name = string_bytes it.name;
      message = message_view it.message;
    }

unfoldable pub uri_base_view : code_uri_base.UriBase → UriBase
uri_base_view it =
    record {
      name = string_bytes it.name;
      location = artifact_location_view it.location;
    }

unfoldable pub rule_view : code_rule.Rule → Rule
rule_view it =
    record {
      id = text_view it.id;
      help_uri = text_view it.help_uri;
      level = it.level;
      messages = map named_message_view it.messages.items;
    }

unfoldable pub component_view : code_component.Component → Component
component_view it =
    record {
      name = text_view it.name;
      rules = map rule_view it.rules.items;
      messages = map named_message_view it.messages.items;
    }

abbrev pub suppression_view : Suppression → Suppression
suppression_view it = it

unfoldable pub replacement_view : code_replacement.Replacement → Replacement
replacement_view it =
    record {
      deleted = it.deleted;
      inserted = text_view it.inserted;
    }

unfoldable pub change_view : code_change.Change → Change
change_view it =
    record {
      artifact = artifact_location_view it.artifact;
      replacements = map replacement_view it.replacements.items;
    }

unfoldable pub fix_view : code_fix.Fix → Fix
fix_view it =
    record {
      changes = map change_view it.changes.items;
    }

unfoldable pub log_result_view : code_result.LogResult → LogResult
log_result_view it =
    record {
      rule_id = text_view it.rule_id;
      rule_index = it.rule_index;
      rule = rule_ref_view it.rule;
      level = it.level;
      kind = it.kind;
      message = message_view it.message;
      locations = map location_view it.locations.items;
      related = map location_view it.related.items;
      suppressions = map suppression_view it.suppressions.items;
      baseline = it.baseline;
      fixes = map fix_view it.fixes.items;
    }

unfoldable pub notification_view : code_notification.Notification → Notification
notification_view it =
    record {
      descriptor = rule_ref_view it.descriptor;
      level = it.level;
      message = message_view it.message;
      locations = map location_view it.locations.items;
    }

unfoldable pub invocation_view : code_invocation.Invocation → Invocation
invocation_view it =
    record {
      configuration = map notification_view it.configuration.items;
      execution = map notification_view it.execution.items;
    }

unfoldable pub artifact_view : code_artifact.Artifact → Artifact
artifact_view it =
    record {
      location = artifact_location_view it.location;
      contents = text_view it.contents;
    }

unfoldable pub tool_view : code_tool.Tool → Tool
tool_view it =
    record {
      driver = component_view it.driver;
      extensions = map component_view it.extensions.items;
    }

unfoldable pub counting_view : code_counting.Counting → Counting
counting_view it =
    record {
      newline_sequences = option_map (λ list. map string_bytes list.items) it.newline_sequences;
      columns = it.columns;
    }

unfoldable pub names_view : code_names.Names → Names
names_view it =
    record {
      bases = map uri_base_view it.bases.items;
      artifacts = map artifact_view it.artifacts.items;
    }

unfoldable pub run_view : code_run.Run → Run
run_view it =
    record {
      tool = tool_view it.tool;
      counting = counting_view it.counting;
      names = names_view it.names;
      invocations = map invocation_view it.invocations.items;
      results = map log_result_view it.results.items;
    }

unfoldable pub log_view : code_log.Log → Log
log_view it = record { runs = map run_view it.runs.items }
