-- A title as it stands on one line.
use Rattle.std.specs.Prelude.{ℕ, ◌==◌, List, [], ◌∷◌, if◌then◌else◌}

-- a byte before a text whose last spaces were taken off
abbrev pub kept : ℕ → List ℕ → List ℕ
kept b [] = if b == 0x20 then [] else b ∷ []
kept b (c ∷ text) = b ∷ c ∷ text

-- a text without the spaces at its end
unfoldable pub without_last_spaces : List ℕ → List ℕ
without_last_spaces [] = []
without_last_spaces (b ∷ text) = kept b (without_last_spaces text)
