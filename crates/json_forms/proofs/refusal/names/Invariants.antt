-- Those before are there; those left are still to come.
use Rattle.std.proofs.Common.{◌≡◌, ◌++◌, drop, map}
use Rattle.json.specs.Value.{members_view}
use Rattle.json_forms.specs.Refusal.{names_in}
use Rattle.json_forms.proofs.refusal.names.Given as goal

abbrev pub invariant-loop-member : goal.invariant-loop-member
invariant-loop-member l = names_in (members_view l.members.items) ≡ map (λ name. name.now) l.names.items ++ names_in (members_view (drop l.member-index l.members.items))
