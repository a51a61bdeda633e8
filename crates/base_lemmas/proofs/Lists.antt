-- What is left of a list.
use Rattle.std.proofs.Common.{◌≡◌, ℕ, ◌-◌, List, length, drop, slice_range, arith}
use Rattle.std.proofs.lemmas.List.{length-drop, take_all}

-- what stands from a place to the end
pub slice_range-rest : {X : Type 0} (xs : List X) (from : ℕ) → slice_range xs from (length xs) ≡ drop from xs
slice_range-rest xs from = take_all (length xs - from) (drop from xs) (omega (arith, length-drop from xs))
