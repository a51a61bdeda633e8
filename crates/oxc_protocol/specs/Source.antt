use Rattle.std.specs.Prelude.{ℕ, ◌<◌, List, Option, Some, None, length}

-- what contracts see of a source: its bytes, and its name if it has one
pub record SourceParts : Type 0 where
  pub bytes : List ℕ
  pub name : Option (List ℕ)

-- the bytes of a source are fewer than the largest `u32`
abbrev pub Fits : List ℕ → Type 0
Fits bytes = length bytes < 4294967295

-- the name of a source that may be missing
abbrev pub source_name : Option SourceParts → Option (List ℕ)
source_name (Some source) = source.name
source_name None = None
