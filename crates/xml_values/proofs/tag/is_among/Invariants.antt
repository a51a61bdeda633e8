-- Those before are others.
use Rattle.std.proofs.Common.{◌≡◌, drop, map}
use Rattle.xml_values.specs.Tag.{is_among}
use Rattle.xml_values.proofs.tag.is_among.Given as goal

abbrev pub invariant-loop-other : goal.invariant-loop-other
invariant-loop-other l = is_among l.name (map (λ it. it.now) l.names) ≡ is_among l.name (map (λ it. it.now) (drop l.other-index l.names))
