-- What contracts see of the scanner that finds the places of labels.
use Rattle.std.specs.Prelude.{◌≡◌, ℕ, List, Option, Some, None, ⊤}
use Rattle.std.specs.Option.{option_map}
use Rattle.oxc_windows.specs.Scan.{Scan}

-- the bytes that it reads
abbrev pub read_bytes : Option Scan → Option (List ℕ)
read_bytes scanner = option_map (λ s. s.input) scanner

-- it reads no rows of context
abbrev pub ReadsRowsAlone : Option Scan → Type 0
ReadsRowsAlone None = ⊤
ReadsRowsAlone (Some scan) = (scan.before ≡ 0) × (scan.after ≡ 0)
