-- The last one of those that are left, or else of those before.
use Rattle.std.proofs.Common.{◌≡◌, drop, map}
use Rattle.std.specs.Option.{option_or}
use Rattle.sarif_log.specs.Log.{named_message_view}
use Rattle.sarif.specs.Seen.{message_seen}
use Rattle.sarif.specs.Rules.{message_named}
use Rattle.sarif.proofs.rules.message_named.Given as goal

abbrev pub invariant-loop-message : goal.invariant-loop-message
invariant-loop-message l = option_or (message_named (map named_message_view (drop l.message-index l.messages)) l.name) (message_seen l.found) ≡ message_named (map named_message_view l.messages) l.name
