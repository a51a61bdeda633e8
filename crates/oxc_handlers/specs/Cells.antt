-- Texts by columns.
use Rattle.std.specs.Prelude.{ℕ, List, replicate}
use Rattle.std.specs.List.{concat, flat_map, range_with_len}

-- a text some times over
unfoldable pub repeated : ℕ → List ℕ → List ℕ
repeated n text = concat (replicate n text)

-- what the columns from a first one on hold, joined
unfoldable pub cells : (ℕ → List ℕ) → ℕ → ℕ → List ℕ
cells cell from n = flat_map cell (range_with_len from n)
