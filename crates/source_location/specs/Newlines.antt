-- Line endings, and the first break of a text.
use Rattle.std.specs.Prelude.{◌≡◌, ℕ, ◌+◌, ◌-◌, ◌==◌, List, [], ◌∷◌, length, map, drop, slice_range, if◌then◌else◌}
use Rattle.source_location.specs.Breaks.{breaks_of, moved}
use Rattle.source_location.specs.declared.newlines.LineEnding.{LineEnding}
use Rattle.source_location.specs.declared.newlines.LineEnding.TheVariants.{Lf, Cr, CrLf}

-- the bytes of a line ending
abbrev pub ending_bytes : LineEnding → List ℕ
ending_bytes Lf = 10 ∷ []
ending_bytes Cr = 13 ∷ []
ending_bytes CrLf = 13 ∷ 10 ∷ []

-- the line ending that an LF or a CR begins, from it and the byte after it
abbrev pub ending_with : ℕ → ℕ → LineEnding
ending_with byte after = if byte == 10 then Lf else if after == 10 then CrLf else Cr

-- the first break of a text stands at the place and is of the kind; the text's other breaks are those of what follows it
pub record IsFirstBreak (text : List ℕ) (place : ℕ) (ending : LineEnding) : Type 0 where
  pub bytes : slice_range text place (place + length (ending_bytes ending)) ≡ ending_bytes ending
  pub breaks : breaks_of text
      ≡ record { start = place; end = place + length (ending_bytes ending) - 1 }
      ∷ map (moved (place + length (ending_bytes ending))) (breaks_of (drop (place + length (ending_bytes ending)) text))
