-- Those so far.
use Rattle.std.proofs.Common.{◌≡◌, map, take}
use Rattle.sarif_log.specs.Log.{member_view, named_message_view, named_messages_of}
use Rattle.sarif_log.proofs.read.named_messages.Given as goal

abbrev pub invariant-loop-member : goal.invariant-loop-member
invariant-loop-member l = map named_message_view l.found.items ≡ named_messages_of (map member_view (take l.member-index l.members.items))
