-- Quoted names.
use Rattle.std.proofs.Common.{◌≡◌, ℕ, zero, suc, List, [], ◌∷◌, drop, refl}
use Rattle.changed_rows.specs.Quoted.{unquoted_from}

-- what comes after so many bytes
pub unquoted_skip : (row : ℕ) (name : List ℕ) (skip : ℕ) (text : List ℕ) → unquoted_from row name skip text ≡ unquoted_from row name zero (drop skip text)
unquoted_skip row name zero text = refl
unquoted_skip row name (suc skip) [] = refl
unquoted_skip row name (suc skip) (byte ∷ rest) = unquoted_skip row name skip rest
