-- Cells turned back, and that they have no bare pipe.
use Rattle.std.proofs.Common.{◌≡◌, ℕ, true, false, ◌==◌, ◌||◌, if◌then◌else◌, List, [], ◌∷◌, ◌++◌, None, refl, sym, ap, ◌∙◌, inl, inr, ◌⊎◌}
use Rattle.std.specs.List.{flat_map}
use Rattle.std.proofs.lemmas.Bool.{cases_eq, ne_eqb}
use Rattle.escapes.specs.Escape.{escaped, spelled_as, spell}
use Rattle.finding_summaries.specs.Cells.{cell, has_bare_from, has_bare_pipe, in_cell, in_one_line, is_line_end, unescape, unescape_from}

abbrev in_line : ℕ → ℕ
in_line byte = if is_line_end byte then 0x20 else byte

-- what holds of one byte before any text
record IsBack (x : ℕ) : Type 0 where
  pub back : (rest : List ℕ) → unescape_from false (spell in_cell x ++ rest) ≡ in_line x ∷ unescape_from false rest
  pub free : (rest : List ℕ) → has_bare_from false (spell in_cell x ++ rest) ≡ has_bare_from false rest

plain_back : (x : ℕ) → (x == 0x5C) ≡ false → (x == 0x7C) ≡ false → in_cell x ≡ None → is_line_end x ≡ false → IsBack x
unfolding unescape_from has_bare_from
plain_back x slash pipe none line =
    let plain : spell in_cell x ≡ x ∷ [] = ap (spelled_as x) none in
    record {
      back =
          λ rest. ap (λ l. unescape_from false (l ++ rest)) plain ∙ ap (λ b. if b then unescape_from true rest else x ∷ unescape_from false rest) slash
          ∙ ap (λ b. (if b then 0x20 else x) ∷ unescape_from false rest) (sym line);
      free =
          λ rest. ap (λ l. has_bare_from false (l ++ rest)) plain ∙ ap (λ b. if b then has_bare_from true rest else x == 0x7C || has_bare_from false rest) slash
          ∙ ap (λ b. b || has_bare_from false rest) pipe;
    }

byte_back : (x : ℕ) → IsBack x
unfolding in_cell unescape_from has_bare_from
byte_back x = go (cases_eq x 0x0A) (cases_eq x 0x0D) (cases_eq x 0x5C) (cases_eq x 0x7C) (cases_eq x 0x3C) (cases_eq x 0x3E) (cases_eq x 0x26) (cases_eq x 0x2A) (cases_eq x 0x5F) (cases_eq x 0x7E) (cases_eq x 0x5B) (cases_eq x 0x5D) (cases_eq x 0x60)
  where
    go : (x ≡ 0x0A) ⊎ (x ≡ 0x0A → ⊥) → (x ≡ 0x0D) ⊎ (x ≡ 0x0D → ⊥) → (x ≡ 0x5C) ⊎ (x ≡ 0x5C → ⊥) → (x ≡ 0x7C) ⊎ (x ≡ 0x7C → ⊥) → (x ≡ 0x3C) ⊎ (x ≡ 0x3C → ⊥) → (x ≡ 0x3E) ⊎ (x ≡ 0x3E → ⊥) → (x ≡ 0x26) ⊎ (x ≡ 0x26 → ⊥) → (x ≡ 0x2A) ⊎ (x ≡ 0x2A → ⊥) → (x ≡ 0x5F) ⊎ (x ≡ 0x5F → ⊥) → (x ≡ 0x7E) ⊎ (x ≡ 0x7E → ⊥) → (x ≡ 0x5B) ⊎ (x ≡ 0x5B → ⊥) → (x ≡ 0x5D) ⊎ (x ≡ 0x5D → ⊥) → (x ≡ 0x60) ⊎ (x ≡ 0x60 → ⊥)
        → IsBack x
    go (inl e) b c d f g h j k m n p q = record { back = λ rest. rw e refl; free = λ rest. rw e refl }
    go (inr a) (inl e) c d f g h j k m n p q = record { back = λ rest. rw e refl; free = λ rest. rw e refl }
    go (inr a) (inr b) (inl e) d f g h j k m n p q = record { back = λ rest. rw e refl; free = λ rest. rw e refl }
    go (inr a) (inr b) (inr c) (inl e) f g h j k m n p q = record { back = λ rest. rw e refl; free = λ rest. rw e refl }
    go (inr a) (inr b) (inr c) (inr d) (inl e) g h j k m n p q = record { back = λ rest. rw e refl; free = λ rest. rw e refl }
    go (inr a) (inr b) (inr c) (inr d) (inr f) (inl e) h j k m n p q = record { back = λ rest. rw e refl; free = λ rest. rw e refl }
    go (inr a) (inr b) (inr c) (inr d) (inr f) (inr g) (inl e) j k m n p q = record { back = λ rest. rw e refl; free = λ rest. rw e refl }
    go (inr a) (inr b) (inr c) (inr d) (inr f) (inr g) (inr h) (inl e) k m n p q = record { back = λ rest. rw e refl; free = λ rest. rw e refl }
    go (inr a) (inr b) (inr c) (inr d) (inr f) (inr g) (inr h) (inr j) (inl e) m n p q = record { back = λ rest. rw e refl; free = λ rest. rw e refl }
    go (inr a) (inr b) (inr c) (inr d) (inr f) (inr g) (inr h) (inr j) (inr k) (inl e) n p q = record { back = λ rest. rw e refl; free = λ rest. rw e refl }
    go (inr a) (inr b) (inr c) (inr d) (inr f) (inr g) (inr h) (inr j) (inr k) (inr m) (inl e) p q = record { back = λ rest. rw e refl; free = λ rest. rw e refl }
    go (inr a) (inr b) (inr c) (inr d) (inr f) (inr g) (inr h) (inr j) (inr k) (inr m) (inr n) (inl e) q = record { back = λ rest. rw e refl; free = λ rest. rw e refl }
    go (inr a) (inr b) (inr c) (inr d) (inr f) (inr g) (inr h) (inr j) (inr k) (inr m) (inr n) (inr p) (inl e) = record { back = λ rest. rw e refl; free = λ rest. rw e refl }
    go (inr a) (inr b) (inr c) (inr d) (inr f) (inr g) (inr h) (inr j) (inr k) (inr m) (inr n) (inr p) (inr q) = plain_back x (ne_eqb x 0x5C c) (ne_eqb x 0x7C d)
        (rw (ne_eqb x 0x0A a, ne_eqb x 0x0D b, ne_eqb x 0x5C c, ne_eqb x 0x7C d, ne_eqb x 0x3C f, ne_eqb x 0x3E g, ne_eqb x 0x26 h, ne_eqb x 0x2A j, ne_eqb x 0x5F k, ne_eqb x 0x7E m, ne_eqb x 0x5B n, ne_eqb x 0x5D p, ne_eqb x 0x60 q) refl)
        (rw (ne_eqb x 0x0A a, ne_eqb x 0x0D b) refl)

pub cell_back : (text : List ℕ) → unescape (cell text) ≡ in_one_line text
unfolding escaped unescape_from
cell_back [] = refl
cell_back (x ∷ xs) = (byte_back x).back (flat_map (spell in_cell) xs) ∙ ap (λ l. in_line x ∷ l) (cell_back xs)

pub cell_free : (text : List ℕ) → has_bare_pipe (cell text) ≡ false
unfolding escaped has_bare_from
cell_free [] = refl
cell_free (x ∷ xs) = (byte_back x).free (flat_map (spell in_cell) xs) ∙ cell_free xs
