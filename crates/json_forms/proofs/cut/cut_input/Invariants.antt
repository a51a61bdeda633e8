-- What comes after the pieces so far completes them.
use Rattle.std.proofs.Common.{◌≡◌, ◌-◌, ◌≤◌, ◌++◌, List, Option, ℕ, length, flat_map, codes}
use Rattle.json_forms.specs.Cut.{IsCut, value_text}
use Rattle.json_forms.specs.declared.cut.Piece.{Piece}
use Rattle.json_forms.proofs.cut.cut_input.Given as goal

abbrev pub invariant-loop-start : goal.invariant-loop-start
invariant-loop-start l = record {
  within : l.at ≤ length l.bytes;
  ahead : (rest : List Piece) (unclosed : Option ℕ) → IsCut l.bytes l.at rest unclosed → IsCut l.bytes 0 (l.pieces.items ++ rest) unclosed;
  text : l.json.items ≡ codes "[null" ++ flat_map (value_text l.bytes) l.pieces.items;
}

abbrev pub decreases-loop-start : goal.decreases-loop-start
decreases-loop-start l = length l.bytes - l.at
