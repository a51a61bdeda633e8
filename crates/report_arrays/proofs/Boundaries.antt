-- The test of a boundary.
use Rattle.std.proofs.Common.{◌≡◌, ℕ, ◌<◌, ◌≤◌, Bool, true, false, ◌||◌, nat_le, nat_lt, List, length, get_or, refl, arith}
use Rattle.std.specs.Str.{IsCharBoundary}
use Rattle.std.proofs.lemmas.Bool.Decides.{nat_tests}
use Rattle.report_arrays.specs.Texts.{is_boundary}

pub boundary_there : (text : List ℕ) (o : ℕ) → IsCharBoundary text o → true ≡ is_boundary text o
boundary_there text o b = let within = b.0 in let high = b.1 in grind (arith, nat_tests)

boundary_false : (text : List ℕ) (o : ℕ) → o ≤ length text → ¬ IsCharBoundary text o → (said : Bool) → is_boundary text o ≡ said → false ≡ said
boundary_false text o le inside false e = refl
boundary_false text o le inside true e = absurd (inside (le, λ lt high. is_start (length text) o (get_or text o 0) lt high e))
  where
    is_start : (n o byte : ℕ) → o < n → 128 ≤ byte → (nat_le n o || (nat_lt byte 128 || nat_le 192 byte)) ≡ true → 192 ≤ byte
    is_start n o byte lt high e = grind (arith, nat_tests)

pub no_boundary_there : (text : List ℕ) (o : ℕ) → o ≤ length text → ¬ IsCharBoundary text o → false ≡ is_boundary text o
no_boundary_there text o le inside = boundary_false text o le inside _ refl

-- what the test says of a place within the text
pub boundary_said : (text : List ℕ) (o : ℕ) → o ≤ length text → is_boundary text o ≡ true → IsCharBoundary text o
boundary_said text o le e = (le, λ lt high. is_start (length text) o (get_or text o 0) lt high e)
  where
    is_start : (n o byte : ℕ) → o < n → 128 ≤ byte → (nat_le n o || (nat_lt byte 128 || nat_le 192 byte)) ≡ true → 192 ≤ byte
    is_start n o byte lt high e = grind (arith, nat_tests)
