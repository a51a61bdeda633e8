use Rattle.std.specs.Prelude.{ℕ, ◌+◌, Bool, List, Option}

-- what contracts see of a label: its text, if it has one, as bytes, where it begins and how long it is,
-- both in bytes, and whether it is the primary one
pub record Label : Type 0 where
  pub text : Option (List ℕ)
  pub offset : ℕ
  pub len : ℕ
  pub primary : Bool

-- the offset just past a label
abbrev pub label_end : Label → ℕ
label_end l = l.offset + l.len
