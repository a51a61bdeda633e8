-- Bytes seen as a text.
use Rattle.std.specs.Prelude.{◌≡◌, ℕ, List, Result, MatchResult}
use Rattle.std.specs.Borrow.{Bor}
use Rattle.std.specs.Str.{IsUtf8, IsValidUpTo}

-- the bytes as a text, or, exactly where they are none, how many of the first of them are one
abbrev pub IsAsText : List ℕ → Result (Bor (List ℕ)) ℕ → Type 0
IsAsText bytes known =
    MatchResult known (λ text. (text.now ≡ bytes) × IsUtf8 bytes) (λ upto. (¬ (IsUtf8 bytes)) × IsValidUpTo bytes upto)
