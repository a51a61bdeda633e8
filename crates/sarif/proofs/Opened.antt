-- Definitions that are opened together: `unfolding(..)` of a name opens all that stand on its line.
use Rattle.std.specs.Prelude.{⊤}
use Rattle.sarif_log.specs.Log.{artifact_location_view, artifact_view, component_view, counting_view, invocation_view, location_view, log_result_view, log_view, message_view, named_message_view, names_view, notification_view, rule_ref_view, run_view, tool_view, uri_base_view}
use Rattle.sarif.specs.Findings.{finding_view, found_by, is_suppressed, strings_of}
use Rattle.sarif.specs.Asked.{names_in}
use Rattle.sarif.specs.Meaning.{aside, diagnostic_of, finding_reports, reports_at}
use Rattle.sarif.specs.Naming.{base_named}
use Rattle.sarif.specs.Rules.{message_named, rule_named}
use Rattle.sarif.specs.Views.{reading_view}

-- the names in a log
unfoldable pub log_names : ⊤
unfolding names_in log_view
log_names = tt

-- a run as it is read
unfoldable pub run : ⊤
unfolding reading_view run_view counting_view tool_view component_view
run = tt

-- a location among the names of a run
unfoldable pub location : ⊤
unfolding names_view artifact_location_view
location = tt

-- the file of a location
unfoldable pub located : ⊤
unfolding location_view names_view artifact_location_view
located = tt

-- the location of an artifact
unfoldable pub artifact : ⊤
unfolding artifact_location_view artifact_view
artifact = tt

-- bases one behind another
unfoldable pub bases : ⊤
unfolding uri_base_view artifact_location_view
bases = tt

-- the last base of a name
unfoldable pub last_base : ⊤
unfolding base_named uri_base_view
last_base = tt

-- a finding in a run as it is read
unfoldable pub finding : ⊤
unfolding reading_view finding_view
finding = tt

-- what a finding becomes
unfoldable pub reports : ⊤
unfolding finding_reports finding_view
reports = tt

-- what a finding becomes at a place
unfoldable pub placed : ⊤
unfolding reports_at diagnostic_of
placed = tt

-- what a location becomes as advice
unfoldable pub asides : ⊤
unfolding aside diagnostic_of
asides = tt

-- a run with what its tool says of it
unfoldable pub run_of_tool : ⊤
unfolding run_view tool_view invocation_view
run_of_tool = tt

-- what a tool says of its rules
unfoldable pub tool : ⊤
unfolding tool_view rule_ref_view
tool = tt

-- a notification as a finding
unfoldable pub notification : ⊤
unfolding finding_view notification_view rule_ref_view
notification = tt

-- a result with its rule, as a finding
unfoldable pub result : ⊤
unfolding found_by strings_of finding_view log_result_view rule_ref_view run_view
result = tt

-- a result with its suppressions
unfoldable pub suppressed : ⊤
unfolding log_result_view is_suppressed
suppressed = tt

-- the rules of a component
unfoldable pub rules : ⊤
unfolding rule_named component_view
rules = tt

-- the messages of a component
unfoldable pub messages : ⊤
unfolding message_view component_view
messages = tt

-- the message of a name
unfoldable pub message : ⊤
unfolding message_named named_message_view
message = tt
