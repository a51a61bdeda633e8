-- Those before are written; those left are still to come.
use Rattle.std.proofs.Common.{◌≡◌, ◌∷◌, ◌++◌, drop, flat_map, string_bytes}
use Rattle.json_forms.specs.Print.{row_text}
use Rattle.json_forms.proofs.print.push_rows.Given as goal

abbrev pub invariant-loop-row : goal.invariant-loop-row
invariant-loop-row l = string_bytes l.initial.out ++ flat_map (λ row. 0x20 ∷ row_text row) l.rows ≡ string_bytes l.out ++ flat_map (λ row. 0x20 ∷ row_text row) (drop l.row-index l.rows)
