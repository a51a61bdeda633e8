-- Those so far.
use Rattle.std.proofs.Common.{◌≡◌, map, take}
use Rattle.json.specs.Value.{value_view}
use Rattle.sarif_log.specs.Log.{notification_view, notifications_of}
use Rattle.sarif_log.proofs.read.notifications.Given as goal

abbrev pub invariant-loop-value : goal.invariant-loop-value
invariant-loop-value l = map notification_view l.found.items ≡ notifications_of (map value_view (take l.value-index l.values))
