-- Only ASCII bytes are written otherwise in cells.
use Rattle.std.proofs.Common.{◌≡◌, ℕ, ◌<◌, ◌≤◌, true, None, refl, inl, inr, ◌⊎◌, arith}
use Rattle.std.specs.Option.{is_some}
use Rattle.std.proofs.lemmas.Bool.{cases_lt, ne_eqb}
use Rattle.finding_summaries.specs.Cells.{in_cell}

none_above : (x : ℕ) → 0x7F ≤ x → in_cell x ≡ None
unfolding in_cell
none_above x high =
    rw (
      ne_eqb x 0x0A (λ e. omega (arith, e, high)),
      ne_eqb x 0x0D (λ e. omega (arith, e, high)),
      ne_eqb x 0x5C (λ e. omega (arith, e, high)),
      ne_eqb x 0x7C (λ e. omega (arith, e, high)),
      ne_eqb x 0x3C (λ e. omega (arith, e, high)),
      ne_eqb x 0x3E (λ e. omega (arith, e, high)),
      ne_eqb x 0x26 (λ e. omega (arith, e, high)),
      ne_eqb x 0x2A (λ e. omega (arith, e, high)),
      ne_eqb x 0x5F (λ e. omega (arith, e, high)),
      ne_eqb x 0x7E (λ e. omega (arith, e, high)),
      ne_eqb x 0x5B (λ e. omega (arith, e, high)),
      ne_eqb x 0x5D (λ e. omega (arith, e, high)),
      ne_eqb x 0x60 (λ e. omega (arith, e, high)),
    )
    refl

pub in_cell_ascii : (x : ℕ) → is_some (in_cell x) ≡ true → x < 128
in_cell_ascii x is = go (cases_lt x 0x7F)
  where
    clash : is_some (in_cell x) ≡ true → in_cell x ≡ None → ⊥
    clash there lacks = cc

    go : (x < 0x7F) ⊎ (0x7F ≤ x) → x < 128
    go (inl low) = omega arith
    go (inr high) = absurd (clash is (none_above x high))
