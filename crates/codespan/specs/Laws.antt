-- The laws of places and of the ways between them, as facts about numbers.
use Rattle.std.specs.Prelude.{◌≡◌, ℕ, ℤ, pos, ◌+ℤ◌, ◌-ℤ◌, neg_ℤ}
use Rattle.std.proofs.Common.{arith}
use Rattle.std.proofs.lemmas.Int.{ints}

pub number_zero_right : (a r : ℤ) → r ≡ (a +ℤ pos 0) → r ≡ a
number_zero_right a r e = omega (arith, ints)

pub number_zero_left : (a r : ℤ) → r ≡ (pos 0 +ℤ a) → r ≡ a
number_zero_left a r e = omega (arith, ints)

pub number_opposite : (a b r : ℤ) → b ≡ neg_ℤ a → r ≡ (a +ℤ b) → r ≡ pos 0
number_opposite a b r e f = omega (arith, ints)

-- there and back
pub number_back : (a b r s : ℤ) → r ≡ (a +ℤ b) → s ≡ (r -ℤ b) → s ≡ a
number_back a b r s e f = omega (arith, ints)

-- the way from one to the other leads there
pub number_forth : (a b r s : ℤ) → r ≡ (b -ℤ a) → s ≡ (a +ℤ r) → s ≡ b
number_forth a b r s e f = omega (arith, ints)

pub place_stays : (i r : ℕ) → pos r ≡ (pos i +ℤ pos 0) → r ≡ i
place_stays i r e = omega (arith, ints)

pub place_back : (i r s : ℕ) (a : ℤ) → pos r ≡ (pos i +ℤ a) → pos s ≡ (pos r -ℤ a) → s ≡ i
place_back i r s a e f = omega (arith, ints)

pub place_forth : (i j s : ℕ) (a : ℤ) → a ≡ (pos j -ℤ pos i) → pos s ≡ (pos i +ℤ a) → s ≡ j
place_forth i j s a e f = omega (arith, ints)
