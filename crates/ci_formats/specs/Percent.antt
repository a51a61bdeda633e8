-- Texts inside a workflow command: `%` and two hexadecimal digits stand for what would end them.
use Rattle.std.specs.Prelude.{◌≡◌, ℕ, ◌<◌, ◌==◌, if◌then◌else◌, true, List, Option, Some, None, codes}
use Rattle.std.proofs.Common.{◌⊎◌, inl, inr, arith}
use Rattle.std.proofs.lemmas.Bool.{cases_eq, ne_eqb}
use Rattle.std.proofs.lemmas.Bool.Decides.{nat_tests}
use Rattle.std.specs.Option.{is_some}
use Rattle.escapes.specs.Escape.{escaped}
use Rattle.ci_formats.specs.declared.percent.Field.{Field}
use Rattle.ci_formats.specs.declared.percent.Field.TheVariants.{Message, Property}

-- what stands for a byte in a property alone
abbrev pub own_spelling : Field → ℕ → Option (List ℕ)
own_spelling Message byte = None
own_spelling Property byte = if byte == 0x3A then Some (codes "%3A") else if byte == 0x2C then Some (codes "%2C") else None

-- what stands for a byte, if it is escaped
unfoldable pub spelling : Field → ℕ → Option (List ℕ)
spelling field byte = if byte == 0x25 then Some (codes "%25") else if byte == 0x0D then Some (codes "%0D") else if byte == 0x0A then Some (codes "%0A") else own_spelling field byte

abbrev pub escape : Field → List ℕ → List ℕ
escape field text = escaped (spelling field) text

-- ---- only ASCII bytes are escaped

own_ascii : (field : Field) (x : ℕ) → is_some (own_spelling field x) ≡ true → x < 128
own_ascii Message x is = cc
own_ascii Property x is = grind (arith, nat_tests)

pub spelling_ascii : (field : Field) (x : ℕ) → is_some (spelling field x) ≡ true → x < 128
unfolding spelling
spelling_ascii field x is = go (cases_eq x 0x25) (cases_eq x 0x0D) (cases_eq x 0x0A)
  where
    go : (x ≡ 0x25) ⊎ (x ≡ 0x25 → ⊥) → (x ≡ 0x0D) ⊎ (x ≡ 0x0D → ⊥) → (x ≡ 0x0A) ⊎ (x ≡ 0x0A → ⊥) → x < 128
    go (inl e) b c = omega arith
    go (inr a) (inl e) c = omega arith
    go (inr a) (inr b) (inl e) = omega arith
    go (inr a) (inr b) (inr c) = own_ascii field x (rw (ne_eqb x 0x25 a, ne_eqb x 0x0D b, ne_eqb x 0x0A c) at is)
