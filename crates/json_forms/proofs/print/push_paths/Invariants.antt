-- Those before are written; those left are still to come.
use Rattle.std.proofs.Common.{◌≡◌, ◌∷◌, ◌++◌, drop, flat_map, string_bytes}
use Rattle.json_spots.specs.Text.{path_text}
use Rattle.json_forms.proofs.print.push_paths.Given as goal

abbrev pub invariant-loop-path : goal.invariant-loop-path
invariant-loop-path l = string_bytes l.initial.out ++ flat_map (λ other. 0x7C ∷ path_text other) l.rest ≡ string_bytes l.out ++ flat_map (λ other. 0x7C ∷ path_text other) (drop l.path-index l.rest)
