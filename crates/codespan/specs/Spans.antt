-- Spans: what they are, and how two of them lie.
use Rattle.std.specs.Prelude.{ℕ, ◌≤◌, ◌⊎◌, min, max}

-- a span as contracts see it: its first byte and the end of its last
pub record Extent : Type 0 where
  pub start : ℕ
  pub end : ℕ

-- the least span that contains both
abbrev pub merged : Extent → Extent → Extent
merged a b = record { start = min a.start b.start; end = max a.end b.end }

-- every byte of the second lies in the first
abbrev pub Covers : Extent → Extent → Type 0
Covers a b = (a.start ≤ b.start) × (b.end ≤ a.end)

-- one of the two is over where the other begins, or before that
abbrev pub AreDisjoint : Extent → Extent → Type 0
AreDisjoint a b = (a.end ≤ b.start) ⊎ (b.end ≤ a.start)
