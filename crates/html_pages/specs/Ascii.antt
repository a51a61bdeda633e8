-- Only ASCII bytes have entities.
use Rattle.std.proofs.Common.{◌≡◌, ℕ, ◌<◌, ◌≤◌, true, None, refl, inl, inr, ◌⊎◌, arith}
use Rattle.std.specs.Option.{is_some}
use Rattle.std.proofs.lemmas.Bool.{cases_lt, ne_eqb}
use Rattle.html_pages.specs.Escaped.{in_html}

none_above : (x : ℕ) → 0x7F ≤ x → in_html x ≡ None
unfolding in_html
none_above x high =
    rw (ne_eqb x 0x26 (λ e. omega (arith, e, high)), ne_eqb x 0x3C (λ e. omega (arith, e, high)), ne_eqb x 0x3E (λ e. omega (arith, e, high)), ne_eqb x 0x22 (λ e. omega (arith, e, high)))
    refl

pub in_html_ascii : (x : ℕ) → is_some (in_html x) ≡ true → x < 128
in_html_ascii x is = go (cases_lt x 0x7F)
  where
    clash : is_some (in_html x) ≡ true → in_html x ≡ None → ⊥
    clash there lacks = cc

    go : (x < 0x7F) ⊎ (0x7F ≤ x) → x < 128
    go (inl low) = omega arith
    go (inr high) = absurd (clash is (none_above x high))
