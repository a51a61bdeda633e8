-- ASCII by vectors.
use Rattle.std.proofs.Common.{◌≡◌, ℕ, zero, suc, ◌+◌, ◌<◌, List, [], ◌∷◌, length, take, drop, bit_or, sym, subst, arith, take-add}
use Rattle.std.proofs.lemmas.Nat.{and_le_l, and_le_r}
use Rattle.std.proofs.lemmas.Str.{IsAscii-append}
use Rattle.std.specs.Str.{IsAscii}
use lib.Bits.{or_add_and}
use lib.Lanes.{zip2}

or_small : (a b : ℕ) → bit_or a b < 128 → (a < 128) × (b < 128)
or_small a b h = (omega (arith, or_add_and a b, and_le_l a b, and_le_r a b), omega (arith, or_add_and a b, and_le_l a b, and_le_r a b))

pub either_ascii : (xs ys : List ℕ) → length xs ≡ length ys → IsAscii (zip2 bit_or xs ys) → IsAscii xs × IsAscii ys
either_ascii [] [] e h = (h, h)
either_ascii [] (y ∷ ys) e h = absurd (omega arith)
either_ascii (x ∷ xs) [] e h = absurd (omega arith)
either_ascii (x ∷ xs) (y ∷ ys) e h =
    let here = or_small x y (h 0) in
    let rest = either_ascii xs ys (omega arith) (λ i. h (suc i)) in
    (elim [ zero ↦ here.0 | suc i ↦ rest.0 i ], elim [ zero ↦ here.1 | suc i ↦ rest.1 i ])

-- ASCII behind ASCII
pub more_ascii : (n m : ℕ) (bytes : List ℕ) → IsAscii (take n bytes) → IsAscii (take m (drop n bytes)) → IsAscii (take (n + m) bytes)
more_ascii n m bytes front next = subst IsAscii (sym (take-add n m bytes)) (IsAscii-append _ _ front next)

-- two halves of a block behind ASCII
pub more_halves : (n : ℕ) (bytes : List ℕ) → IsAscii (take n bytes) → IsAscii (take 256 (drop n bytes)) → IsAscii (take 256 (drop (n + 256) bytes))
    → IsAscii (take (n + 512) bytes)
more_halves n bytes front first second =
    subst (λ k. IsAscii (take k bytes)) (omega arith) (more_ascii (n + 256) 256 bytes (more_ascii n 256 bytes front first) second)
