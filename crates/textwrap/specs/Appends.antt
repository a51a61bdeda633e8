-- What is appended to a text.
use Rattle.std.specs.Prelude.{◌≡◌, ℕ, List, ◌++◌, string_bytes}
use Rattle.std.specs.declared.string.String.{String}

-- the new text is the old one, and behind it these bytes
abbrev pub Appends : {A : Type 0} → String A → String A → List ℕ → Type 0
Appends old new text = string_bytes new ≡ string_bytes old ++ text
