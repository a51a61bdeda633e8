-- The units before have other names.
use Rattle.std.proofs.Common.{◌≡◌, drop, map}
use Rattle.json_forms.specs.Rows.{among}
use Rattle.json_forms.proofs.rows.unit_among.Given as goal

abbrev pub invariant-loop-unit : goal.invariant-loop-unit
invariant-loop-unit l = among (map (λ unit. (unit.0.now, unit.1)) l.units) l.name ≡ among (map (λ unit. (unit.0.now, unit.1)) (drop l.unit-index l.units)) l.name
