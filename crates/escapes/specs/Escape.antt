-- Texts in which some bytes are spelled otherwise.
use Rattle.std.specs.Prelude.{◌≡◌, ℕ, ◌+◌, ◌<◌, Bool, List, [], ◌∷◌, ◌++◌, length, take, drop, slice_index, Option, Some, None, MatchOption}
use Rattle.std.specs.List.{flat_map}
use Rattle.std.specs.Option.{is_some}

-- what stands for a byte: its spelling, or itself where it has none
abbrev pub spelled_as : ℕ → Option (List ℕ) → List ℕ
spelled_as byte None = byte ∷ []
spelled_as byte (Some text) = text

abbrev pub spell : (ℕ → Option (List ℕ)) → ℕ → List ℕ
spell spelled byte = spelled_as byte (spelled byte)

-- a text, each byte of which is spelled
unfoldable pub escaped : (ℕ → Option (List ℕ)) → List ℕ → List ℕ
escaped spelled text = flat_map (spell spelled) text

-- a byte is spelled otherwise
abbrev pub is_spelled : (ℕ → Option (List ℕ)) → ℕ → Bool
is_spelled spelled byte = is_some (spelled byte)

-- it is the first that is
pub record IsSpelledAt (spelled : ℕ → Option (List ℕ)) (text : List ℕ) (at : ℕ) : Type 0 where
  pub within : at < length text
  pub ascii : slice_index text at < 128
  pub parts : escaped spelled text ≡ take at text ++ (spell spelled (slice_index text at) ++ escaped spelled (drop (at + 1) text))

abbrev pub IsFirstSpelled : (ℕ → Option (List ℕ)) → List ℕ → Option ℕ → Type 0
IsFirstSpelled spelled text answer = MatchOption answer (escaped spelled text ≡ text) (λ at. IsSpelledAt spelled text at)
