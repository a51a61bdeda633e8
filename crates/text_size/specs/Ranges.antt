-- Ranges as pairs of numbers: the start, and the end, which is excluded.
use Rattle.std.specs.Prelude.{ℕ, ◌≤◌}

-- the second range lies within the first
abbrev pub HoldsRange : ℕ × ℕ → ℕ × ℕ → Type 0
HoldsRange outer inner = (outer.0 ≤ inner.0) × (inner.1 ≤ outer.1)

-- the range holds both others, and lies within every range that holds both
pub record IsLeastHolding (range first second : ℕ × ℕ) : Type 0 where
  pub holds_first : HoldsRange range first
  pub holds_second : HoldsRange range second
  pub least : (other : ℕ × ℕ) → HoldsRange other first → HoldsRange other second → HoldsRange other range
