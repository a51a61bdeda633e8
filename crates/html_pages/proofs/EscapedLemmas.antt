-- Texts turned back, and that they have no markup.
use Rattle.std.proofs.Common.{◌≡◌, ℕ, false, ◌==◌, ◌||◌, if◌then◌else◌, List, [], ◌∷◌, ◌++◌, None, refl, ap, ◌∙◌, inl, inr, ◌⊎◌}
use Rattle.std.specs.List.{list_any}
use Rattle.std.proofs.lemmas.Bool.{cases_eq, ne_eqb, or_from}
use Rattle.escapes.specs.Escape.{spelled_as, spell}
use Rattle.escapes.proofs.EscapeLemmas.{escaped_back, escaped_free}
use Rattle.html_pages.specs.Escaped.{escaped_text, in_html, is_markup}
use Rattle.html_pages.specs.Read.{Entity, Tag, Text, read, read_in}

-- what holds of one byte before any text
record IsBack (x : ℕ) : Type 0 where
  pub back : (rest : List ℕ) → read_in Text (spell in_html x ++ rest) ≡ x ∷ read_in Text rest
  pub free : list_any is_markup (spell in_html x) ≡ false

plain_back : (x : ℕ) → (x == 0x26) ≡ false → (x == 0x3C) ≡ false → (x == 0x3E) ≡ false → (x == 0x22) ≡ false → in_html x ≡ None → IsBack x
unfolding read_in
plain_back x amp lt gt quot none =
    let plain : spell in_html x ≡ x ∷ [] = ap (spelled_as x) none in
    record {
      back =
          λ rest. ap (λ l. read_in Text (l ++ rest)) plain
          ∙ ap (λ b. if b then read_in Tag rest else if x == 0x26 then read_in (Entity []) rest else x ∷ read_in Text rest) lt
          ∙ ap (λ b. if b then read_in (Entity []) rest else x ∷ read_in Text rest) amp;
      free = ap (list_any is_markup) plain ∙ or_from (is_markup x) false (or_from (x == 0x3C) (x == 0x3E || x == 0x22) lt (or_from (x == 0x3E) (x == 0x22) gt quot)) refl;
    }

byte_back : (x : ℕ) → IsBack x
unfolding in_html read_in
byte_back x = go (cases_eq x 0x26) (cases_eq x 0x3C) (cases_eq x 0x3E) (cases_eq x 0x22)
  where
    go : (x ≡ 0x26) ⊎ (x ≡ 0x26 → ⊥) → (x ≡ 0x3C) ⊎ (x ≡ 0x3C → ⊥) → (x ≡ 0x3E) ⊎ (x ≡ 0x3E → ⊥) → (x ≡ 0x22) ⊎ (x ≡ 0x22 → ⊥) → IsBack x
    go (inl e) b c d = record { back = λ rest. rw e refl; free = rw e refl }
    go (inr a) (inl e) c d = record { back = λ rest. rw e refl; free = rw e refl }
    go (inr a) (inr b) (inl e) d = record { back = λ rest. rw e refl; free = rw e refl }
    go (inr a) (inr b) (inr c) (inl e) = record { back = λ rest. rw e refl; free = rw e refl }
    go (inr a) (inr b) (inr c) (inr d) = plain_back x (ne_eqb x 0x26 a) (ne_eqb x 0x3C b) (ne_eqb x 0x3E c) (ne_eqb x 0x22 d)
        (rw (ne_eqb x 0x26 a, ne_eqb x 0x3C b, ne_eqb x 0x3E c, ne_eqb x 0x22 d) refl)

pub spell_back : (x : ℕ) (rest : List ℕ) → read_in Text (spell in_html x ++ rest) ≡ x ∷ read_in Text rest
spell_back x rest = (byte_back x).back rest

pub text_back : (text : List ℕ) → read (escaped_text text) ≡ text
unfolding read_in
text_back text = escaped_back in_html read refl spell_back text

pub text_free : (text : List ℕ) → list_any is_markup (escaped_text text) ≡ false
text_free text = escaped_free in_html is_markup (λ x. (byte_back x).free) text
