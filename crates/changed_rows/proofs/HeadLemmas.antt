-- Numbers in heads.
use Rattle.std.proofs.Common.{◌≡◌, ℕ, zero, suc, ◌+◌, ◌-◌, ◌*◌, ◌<◌, ◌≤◌, ◌==◌, if◌then◌else◌, List, [], ◌∷◌, length, Some, None, refl, ap, arith}
use Rattle.changed_rows.specs.Heads.{value_from, without_folders}
use Rattle.changed_rows.specs.Lines.{back_from, front_to}

-- a number grows as digits come after it
pub value_grows : (value : ℕ) (digits : List ℕ) → value ≤ value_from value digits
value_grows value [] = omega arith
value_grows value (digit ∷ digits) = omega (arith, value_grows (value * 10 + (digit - 0x30)) digits)

pub folders_step : (n : ℕ) (name : List ℕ) → 0 < n → without_folders n name ≡ (if length (front_to 0x2F name) == length name then None else without_folders (n - 1) (back_from 0x2F name))
folders_step zero name some = absurd (omega arith)
folders_step (suc n) name some = ap (λ k. if length (front_to 0x2F name) == length name then None else without_folders k (back_from 0x2F name)) (omega arith)

pub folders_none : (n : ℕ) (name : List ℕ) → n ≤ 0 → without_folders n name ≡ Some name
folders_none zero name none = refl
folders_none (suc n) name none = absurd (omega arith)

-- folders that are taken away one after another
pub ruleset folder_rules = (folders_step, folders_none)
