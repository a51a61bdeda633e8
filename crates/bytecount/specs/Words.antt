-- A word of eight bytes.
use Rattle.std.specs.Prelude.{ℕ, Bool, List, map, if◌then◌else◌}
use Rattle.std.specs.Int.{to_le_bytes, w64}

-- its bytes, the lowest first
unfoldable pub bytes_of : ℕ → List ℕ
bytes_of word = to_le_bytes w64 word

-- 1 for each byte that passes a test, and 0 for each other
abbrev pub flags : (ℕ → Bool) → List ℕ → List ℕ
flags test bytes = map (λ byte. if test byte then 1 else 0) bytes
