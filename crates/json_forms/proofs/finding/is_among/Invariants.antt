-- The keys before are others.
use Rattle.std.proofs.Common.{◌≡◌, drop, map}
use Rattle.json_forms.specs.Finding.{is_among}
use Rattle.json_forms.proofs.finding.is_among.Given as goal

abbrev pub invariant-loop-own : goal.invariant-loop-own
invariant-loop-own l = is_among (map (λ own. own.now) l.keys) l.key ≡ is_among (map (λ own. own.now) (drop l.own-index l.keys)) l.key
