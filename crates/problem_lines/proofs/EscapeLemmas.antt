-- A text that is spelled byte by byte is the escaped text.
use Rattle.std.proofs.Common.{◌≡◌, ℕ, Bool, true, false, ◌==◌, if◌then◌else◌, List, [], ◌∷◌, ◌++◌, Some, None, refl, ap₂, inl, inr, ◌⊎◌}
use Rattle.std.proofs.lemmas.Bool.{cases_eq, ne_eqb}
use Rattle.escapes.specs.Escape.{escaped, spell, spelled_as}
use Rattle.problem_lines.specs.declared.escape.Field.{Field}
use Rattle.problem_lines.specs.declared.escape.Field.TheVariants.{Name, Rule, Message}
use Rattle.problem_lines.specs.Escape.{own_letter, own_spelling, letter_of, spelling, spelled, escape_byte, escape}

own_same : (field : Field) (x : ℕ) → spelled_as x (own_spelling field x) ≡ spelled x (own_letter field x)
own_same Name x = go (x == 0x3A)
  where
    go : (said : Bool) → spelled_as x (if said then Some (0x5C ∷ 0x63 ∷ []) else None) ≡ spelled x (if said then Some 0x63 else None)
    go true = refl
    go false = refl
own_same Rule x = go (x == 0x5D)
  where
    go : (said : Bool) → spelled_as x (if said then Some (0x5C ∷ 0x62 ∷ []) else None) ≡ spelled x (if said then Some 0x62 else None)
    go true = refl
    go false = refl
own_same Message x = refl

byte_same : (field : Field) (x : ℕ) → spell (spelling field) x ≡ escape_byte field x
unfolding escape_byte letter_of spelling
byte_same field x = go (cases_eq x 0x5C) (cases_eq x 0x0A) (cases_eq x 0x0D)
  where
    go : (x ≡ 0x5C) ⊎ (x ≡ 0x5C → ⊥) → (x ≡ 0x0A) ⊎ (x ≡ 0x0A → ⊥) → (x ≡ 0x0D) ⊎ (x ≡ 0x0D → ⊥) → spell (spelling field) x ≡ escape_byte field x
    go (inl e) b c = rw e refl
    go (inr a) (inl e) c = rw e refl
    go (inr a) (inr b) (inl e) = rw e refl
    go (inr a) (inr b) (inr c) = rw (ne_eqb x 0x5C a, ne_eqb x 0x0A b, ne_eqb x 0x0D c) (own_same field x)

pub escaped_same : (field : Field) (text : List ℕ) → escaped (spelling field) text ≡ escape field text
unfolding escaped escape
escaped_same field [] = refl
escaped_same field (x ∷ xs) = ap₂ (λ a b. a ++ b) (byte_same field x) (escaped_same field xs)
