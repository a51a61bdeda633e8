-- Only ASCII bytes are escaped in XML.
use Rattle.std.proofs.Common.{◌≡◌, ℕ, ◌<◌, ◌≤◌, true, None, refl, inl, inr, ◌⊎◌, arith}
use Rattle.std.specs.Option.{is_some}
use Rattle.std.proofs.lemmas.Bool.{cases_lt, ne_eqb}
use Rattle.ci_formats.specs.Xml.{entity}

none_above : (x : ℕ) → 0x40 ≤ x → entity x ≡ None
unfolding entity
none_above x high =
    rw (
      ne_eqb x 0x26 (λ e. omega (arith, e, high)),
      ne_eqb x 0x3C (λ e. omega (arith, e, high)),
      ne_eqb x 0x3E (λ e. omega (arith, e, high)),
      ne_eqb x 0x22 (λ e. omega (arith, e, high)),
      ne_eqb x 0x27 (λ e. omega (arith, e, high)),
      ne_eqb x 0x09 (λ e. omega (arith, e, high)),
      ne_eqb x 0x0A (λ e. omega (arith, e, high)),
      ne_eqb x 0x0D (λ e. omega (arith, e, high)),
    )
    refl

pub entity_ascii : (x : ℕ) → is_some (entity x) ≡ true → x < 128
entity_ascii x is = go (cases_lt x 0x40)
  where
    clash : is_some (entity x) ≡ true → entity x ≡ None → ⊥
    clash there lacks = cc

    go : (x < 0x40) ⊎ (0x40 ≤ x) → x < 128
    go (inl low) = omega arith
    go (inr high) = absurd (clash is (none_above x high))
