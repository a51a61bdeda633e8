-- Those before are written; those left are still to come.
use Rattle.std.proofs.Common.{◌≡◌, ◌∷◌, ◌++◌, drop, flat_map, string_bytes}
use Rattle.json_forms.specs.Print.{level_text}
use Rattle.json_forms.proofs.print.push_levels.Given as goal

abbrev pub invariant-loop-level : goal.invariant-loop-level
invariant-loop-level l = string_bytes l.initial.out ++ flat_map (λ other. 0x2C ∷ level_text other.0.now other.1) l.rest ≡ string_bytes l.out ++ flat_map (λ other. 0x2C ∷ level_text other.0.now other.1) (drop l.level-index l.rest)
