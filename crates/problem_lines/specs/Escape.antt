-- Texts inside a line.
use Rattle.std.specs.Prelude.{◌≡◌, ℕ, ◌<◌, ◌==◌, if◌then◌else◌, true, List, [], ◌∷◌, Option, Some, None, codes}
use Rattle.std.specs.List.{flat_map}
use Rattle.std.specs.Option.{is_some}
use Rattle.std.proofs.Common.{◌⊎◌, inl, inr, arith}
use Rattle.std.proofs.lemmas.Bool.{cases_eq, ne_eqb}
use Rattle.std.proofs.lemmas.Bool.Decides.{nat_tests}
use Rattle.problem_lines.specs.declared.escape.Field.{Field}
use Rattle.problem_lines.specs.declared.escape.Field.TheVariants.{Name, Rule, Message}

-- the letter of a byte that is escaped in one kind of text alone
abbrev pub own_letter : Field → ℕ → Option ℕ
own_letter Name byte = if byte == 0x3A then Some 0x63 else None
own_letter Rule byte = if byte == 0x5D then Some 0x62 else None
own_letter Message byte = None

-- the letter that stands behind a backslash for a byte, if it is escaped
unfoldable pub letter_of : Field → ℕ → Option ℕ
letter_of field byte = if byte == 0x5C then Some 0x5C else if byte == 0x0A then Some 0x6E else if byte == 0x0D then Some 0x72 else own_letter field byte

abbrev pub spelled : ℕ → Option ℕ → List ℕ
spelled byte None = byte ∷ []
spelled byte (Some letter) = 0x5C ∷ letter ∷ []

unfoldable pub escape_byte : Field → ℕ → List ℕ
escape_byte field byte = spelled byte (letter_of field byte)

unfoldable pub escape : Field → List ℕ → List ℕ
escape field text = flat_map (escape_byte field) text

-- ---- what stands for a byte, as text

abbrev pub own_spelling : Field → ℕ → Option (List ℕ)
own_spelling Name byte = if byte == 0x3A then Some (codes "\\c") else None
own_spelling Rule byte = if byte == 0x5D then Some (codes "\\b") else None
own_spelling Message byte = None

unfoldable pub spelling : Field → ℕ → Option (List ℕ)
spelling field byte = if byte == 0x5C then Some (codes "\\\\") else if byte == 0x0A then Some (codes "\\n") else if byte == 0x0D then Some (codes "\\r") else own_spelling field byte

own_ascii : (field : Field) (x : ℕ) → is_some (own_spelling field x) ≡ true → x < 128
own_ascii Name x is = grind (arith, nat_tests)
own_ascii Rule x is = grind (arith, nat_tests)
own_ascii Message x is = cc

pub spelling_ascii : (field : Field) (x : ℕ) → is_some (spelling field x) ≡ true → x < 128
unfolding spelling
spelling_ascii field x is = go (cases_eq x 0x5C) (cases_eq x 0x0A) (cases_eq x 0x0D)
  where
    go : (x ≡ 0x5C) ⊎ (x ≡ 0x5C → ⊥) → (x ≡ 0x0A) ⊎ (x ≡ 0x0A → ⊥) → (x ≡ 0x0D) ⊎ (x ≡ 0x0D → ⊥) → x < 128
    go (inl e) b c = omega arith
    go (inr a) (inl e) c = omega arith
    go (inr a) (inr b) (inl e) = omega arith
    go (inr a) (inr b) (inr c) = own_ascii field x (rw (ne_eqb x 0x5C a, ne_eqb x 0x0A b, ne_eqb x 0x0D c) at is)
