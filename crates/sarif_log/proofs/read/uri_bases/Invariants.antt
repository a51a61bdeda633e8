-- Those so far.
use Rattle.std.proofs.Common.{◌≡◌, map, take}
use Rattle.sarif_log.specs.Log.{member_view, uri_base_view, uri_bases_of}
use Rattle.sarif_log.proofs.read.uri_bases.Given as goal

abbrev pub invariant-loop-member : goal.invariant-loop-member
invariant-loop-member l = map uri_base_view l.found.items ≡ uri_bases_of (map member_view (take l.member-index l.members.items))
