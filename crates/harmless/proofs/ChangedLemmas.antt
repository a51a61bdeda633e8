-- Sources that are changed where they are sanitized.
use Rattle.std.proofs.Common.{◌≡◌, ℕ, Bool, true, false, ◌&&◌, ◌==◌, List, [], ◌∷◌, refl, sym, ap, ap₂, ◌∙◌}
use Rattle.std.specs.List.{list_all}
use Rattle.std.specs.Str.{bytes_eq, chars, IsUtf8}
use Rattle.std.proofs.lemmas.Bool.{and_parts, eqb-true}
use Rattle.std.proofs.lemmas.Bool.Decides.{Decides-eqb}
use Rattle.std.proofs.lemmas.Slice.Eq.{bytes_eq-Decides}
use Rattle.std.proofs.lemmas.Str.{chars-encodes, encodes-chars, scalars-chars}
use lib.Utf8.{encodes}
use Rattle.harmless.specs.declared.Kind.TheVariants.{Prose}
use Rattle.harmless.specs.Harmless.{harmless_source, is_plain, source_char, stays, with_next}
use Rattle.harmless.proofs.PlainLemmas.{plain_source_stays}
use Rattle.harmless.proofs.SourceLemmas.{next_first, next_of, settled, settled_first, settled_scalars}

abbrev all_stay : List ℕ → Bool
all_stay cs = list_all (λ p. stays p.0 p.1) (with_next cs)

stays_first : (c : ℕ) (cs : List ℕ) → all_stay (c ∷ cs) ≡ (stays c (next_of cs) && all_stay cs)
stays_first c cs = ap (list_all (λ p. stays p.0 p.1)) (next_first c cs)

settled_stays : (cs : List ℕ) → all_stay cs ≡ true → settled cs ≡ cs
settled_stays [] is = refl
settled_stays (c ∷ cs) is =
    let parts = and_parts (stays c (next_of cs)) (all_stay cs) (sym (stays_first c cs) ∙ is) in
    settled_first c cs ∙ ap₂ (λ d ds. d ∷ ds) (eqb-true (source_char c (next_of cs)) c parts.0) (settled_stays cs parts.1)

first_of : List ℕ → ℕ
first_of [] = 0
first_of (c ∷ cs) = c

rest_of : List ℕ → List ℕ
rest_of [] = []
rest_of (c ∷ cs) = cs

stays_settled : (cs : List ℕ) → settled cs ≡ cs → all_stay cs ≡ true
unfolding first_of rest_of
stays_settled [] same = refl
stays_settled (c ∷ cs) same =
    let all = sym (settled_first c cs) ∙ same in
    stays_first c cs ∙ ap₂ (λ a b. a && b) (ap (λ d. d == c) (ap first_of all) ∙ (Decides-eqb c c).1 refl) (stays_settled cs (ap rest_of all))

same_text : (text : List ℕ) → IsUtf8 text → all_stay (chars text) ≡ true → harmless_source text ≡ text
unfolding harmless_source
same_text text utf8 is = ap encodes (settled_stays (chars text) is) ∙ encodes-chars text utf8

same_chars : (text : List ℕ) → IsUtf8 text → harmless_source text ≡ text → all_stay (chars text) ≡ true
unfolding harmless_source
same_chars text utf8 same =
    stays_settled (chars text) (sym (chars-encodes (settled (chars text)) (settled_scalars (chars text) (scalars-chars text utf8))) ∙ ap chars same)

-- a source is its own sanitized one exactly if each of its characters stays
pub settled_test : (text : List ℕ) → IsUtf8 text → list_all (λ p. stays p.0 p.1) (with_next (chars text)) ≡ bytes_eq (harmless_source text) text
settled_test text utf8 = go (all_stay (chars text)) (bytes_eq (harmless_source text) text) refl refl
  where
    go : (a b : Bool) → all_stay (chars text) ≡ a → bytes_eq (harmless_source text) text ≡ b → a ≡ b
    go true b is same = sym ((bytes_eq-Decides (harmless_source text) text).1 (same_text text utf8 is)) ∙ same
    go false true is same = sym is ∙ same_chars text utf8 ((bytes_eq-Decides (harmless_source text) text).0 same)
    go false false is same = refl

-- so is plain ASCII
pub plain_settled : (text : List ℕ) → IsUtf8 text → list_all (is_plain Prose) text ≡ true → bytes_eq (harmless_source text) text ≡ true
plain_settled text utf8 plain = (bytes_eq-Decides (harmless_source text) text).1 (sym (plain_source_stays text utf8 plain))
