-- Lines by first fit: a line is one, and there is one division into lines.
use Rattle.std.proofs.Common.{◌≡◌, ℕ, ◌+◌, ◌-◌, ◌<◌, ◌≤◌, List, [], ◌∷◌, length, take, drop, sum_by, refl, ap, subst, ◌∙◌, arith, ⊎_elim}
use Rattle.std.proofs.lemmas.Bool.{cases_lt}
use Rattle.std.proofs.lemmas.List.{take-take}
use Rattle.std.proofs.lemmas.List.Sums.{sum_by-take-le}
use Rattle.textwrap.specs.Pieces.{PieceView}
use Rattle.textwrap.specs.Lines.{front_width, IsLine, AreLines}

sum_by-take-mono : {X : Type 0} (f : X → ℕ) (xs : List X) (n m : ℕ) → n ≤ m → sum_by f (take n xs) ≤ sum_by f (take m xs)
sum_by-take-mono f xs n m le = subst (λ l. sum_by f l ≤ sum_by f (take m xs)) (take-take n m xs le) (sum_by-take-le f (take m xs) n)

-- more pieces are no narrower
pub front_width-le : (pieces : List PieceView) (n m : ℕ) → n ≤ m → front_width pieces n ≤ front_width pieces m
unfolding front_width
front_width-le pieces n m le = omega (arith, sum_by-take-mono (λ p. p.width) pieces n m le, sum_by-take-mono (λ p. p.gap) pieces (n - 1) (m - 1) (omega arith))

-- two lines from one place, in one room, are the same
pub line_le : (room : ℕ) (pieces : List PieceView) (n m : ℕ) → IsLine room pieces n → IsLine room pieces m → n ≤ m
line_le room pieces n m a b =
    ⊎_elim (λ lt. absurd (omega (arith, b.full (omega (arith, a.within)), a.fits (omega (arith, b.some)), front_width-le pieces (m + 1) n (omega arith))))
    (λ ge. ge) (cases_lt m n)

pub same_line : (room : ℕ) (pieces : List PieceView) (n m : ℕ) → IsLine room pieces n → IsLine room pieces m → n ≡ m
same_line room pieces n m a b = omega (arith, line_le room pieces n m a b, line_le room pieces m n b a)

-- there is one division into lines
pub same_lines : (first later : ℕ) (pieces : List PieceView) (xs ys : List ℕ) → AreLines first later pieces xs → AreLines first later pieces ys → xs ≡ ys
same_lines first later pieces [] [] a b = refl
same_lines first later pieces [] (m ∷ ys) a b = absurd (omega (arith, a, b.0.some, b.0.within))
same_lines first later pieces (n ∷ xs) [] a b = absurd (omega (arith, b, a.0.some, a.0.within))
same_lines first later pieces (n ∷ xs) (m ∷ ys) a b =
    let one = same_line first pieces n m a.0 b.0 in
    ap (λ k. k ∷ xs) one ∙ ap (λ l. m ∷ l) (same_lines later later (drop m pieces) xs ys (subst (λ k. AreLines later later (drop k pieces) xs) one a.1) b.1)
