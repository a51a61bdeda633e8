-- What findings are counted by: their files and their rules.
use Rattle.std.specs.Prelude.{ℕ, List, [], ◌∷◌, unwrap_or, codes}
use Rattle.ci_formats.specs.Finding.{FindingParts}

-- the name of a file; no file has an empty one
abbrev pub file_named : List ℕ → List ℕ
file_named [] = codes "(no file)"
file_named (byte ∷ more) = byte ∷ more

abbrev pub file_of : FindingParts → List ℕ
file_of f = file_named f.name

-- the rule that a finding is of: its code
abbrev pub rule_of : FindingParts → List ℕ
rule_of f = unwrap_or f.code (codes "(no rule)")
