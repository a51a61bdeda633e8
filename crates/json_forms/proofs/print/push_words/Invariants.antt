-- Those before are written; those left are still to come.
use Rattle.std.proofs.Common.{◌≡◌, ◌∷◌, ◌++◌, drop, flat_map, string_bytes}
use Rattle.json_spots.specs.Text.{name_text}
use Rattle.json_forms.proofs.print.push_words.Given as goal

abbrev pub invariant-loop-word : goal.invariant-loop-word
invariant-loop-word l = string_bytes l.initial.out ++ flat_map (λ other. 0x7C ∷ name_text other.now) l.rest ≡ string_bytes l.out ++ flat_map (λ other. 0x7C ∷ name_text other.now) (drop l.word-index l.rest)
