-- What is written is UTF-8.
use Rattle.std.proofs.Common.{◌≡◌, ℕ, ◌<◌, ◌≤◌, nat_le, nat_lt, if◌then◌else◌, List, [], ◌∷◌, ◌++◌, map, Bool, true, false, Option, Some, None, String, arith, refl, sym, subst, inl, inr, ◌⊎◌, IsUtf8, codes, decimal}
use Rattle.std.specs.Char.{encode_utf8}
use Rattle.std.specs.List.{list_all}
use Rattle.std.specs.Str.{chars, encode_utf8_all}
use Rattle.std.proofs.lemmas.Bool.{and_from, and_parts, cases_eq, cases_lt, leb-true, lt-ltb, ne_eqb}
use Rattle.std.proofs.lemmas.Str.{encode_ascii, IsUtf8-append, IsUtf8-encode, IsUtf8-nil, IsUtf8-string_bytes, scalars-chars}
use Rattle.json.proofs.Printed.Utf8.{are_ascii, IsUtf8-are_ascii}
use lib.Utf8.{scalar, scalars}
use Rattle.escapes.specs.Escape.{escaped, spell}
use Rattle.ci_formats.specs.declared.finding.Finding.{Finding}
use Rattle.ci_formats.specs.Finding.{finding_parts, FindingParts}
use Rattle.oxc_span.specs.Views.{text_bytes}
use Rattle.ci_formats.specs.Checkstyle.{source_attribute}
use Rattle.ci_formats.specs.Xml.{attribute, entity, escape, held, held_char, is_held, shown}
use Rattle.finding_laws.proofs.SharedLemmas.{ByRecursion}
use Rattle.finding_laws.proofs.CheckstyleLemmas.Attribute.{spelled_out}
use Rattle.finding_laws.proofs.CheckstyleLemmas.Char.{all_high, bytes_of, escape-append, escape_high}
use Rattle.finding_laws.proofs.CheckstyleLemmas.Children.{rows_then}
use Rattle.finding_laws.proofs.CheckstyleLemmas.Value.{decimal_figures, is_figure}

-- ---- findings whose texts are UTF-8

abbrev pub IsOptionUtf8 : Option (List ℕ) → Type 0
IsOptionUtf8 None = Unit {0}
IsOptionUtf8 (Some text) = IsUtf8 text

pub record HasTexts (f : FindingParts) : Type 0 where
  pub name : IsUtf8 f.name
  pub message : IsUtf8 f.message
  pub code : IsOptionUtf8 f.code

code_utf8 : {Z : Type 0} (code : Option (String Z)) → IsOptionUtf8 (text_bytes code)
code_utf8 None = tt
code_utf8 (Some text) = IsUtf8-string_bytes text

pub all_texts : (findings : List Finding) → ByRecursion HasTexts (map finding_parts findings)
all_texts [] = tt
all_texts (f ∷ findings) = (record { name = IsUtf8-string_bytes f.name; message = IsUtf8-string_bytes f.message; code = code_utf8 f.code }, all_texts findings)

-- ---- what is written of a text

pub ascii_on : (front rest : List ℕ) → are_ascii front ≡ true → IsUtf8 rest → IsUtf8 (front ++ rest)
ascii_on front rest ascii utf8 = IsUtf8-append front rest (IsUtf8-are_ascii front ascii) utf8

spell_utf8 : (c : ℕ) → c < 128 → IsUtf8 (spell entity c)
unfolding entity
spell_utf8 c small = go (cases_eq c 0x26) (cases_eq c 0x3C) (cases_eq c 0x3E) (cases_eq c 0x22) (cases_eq c 0x27) (cases_eq c 0x09) (cases_eq c 0x0A) (cases_eq c 0x0D)
  where
    go : (c ≡ 0x26) ⊎ (c ≡ 0x26 → ⊥) → (c ≡ 0x3C) ⊎ (c ≡ 0x3C → ⊥) → (c ≡ 0x3E) ⊎ (c ≡ 0x3E → ⊥) → (c ≡ 0x22) ⊎ (c ≡ 0x22 → ⊥) → (c ≡ 0x27) ⊎ (c ≡ 0x27 → ⊥)
        → (c ≡ 0x09) ⊎ (c ≡ 0x09 → ⊥) → (c ≡ 0x0A) ⊎ (c ≡ 0x0A → ⊥) → (c ≡ 0x0D) ⊎ (c ≡ 0x0D → ⊥) → IsUtf8 (spell entity c)
    go (inl e) b c' d f g h k = rw e (IsUtf8-are_ascii (codes "&amp;") refl)
    go (inr a) (inl e) c' d f g h k = rw e (IsUtf8-are_ascii (codes "&lt;") refl)
    go (inr a) (inr b) (inl e) d f g h k = rw e (IsUtf8-are_ascii (codes "&gt;") refl)
    go (inr a) (inr b) (inr c') (inl e) f g h k = rw e (IsUtf8-are_ascii (codes "&quot;") refl)
    go (inr a) (inr b) (inr c') (inr d) (inl e) g h k = rw e (IsUtf8-are_ascii (codes "&apos;") refl)
    go (inr a) (inr b) (inr c') (inr d) (inr f) (inl e) h k = rw e (IsUtf8-are_ascii (codes "&#9;") refl)
    go (inr a) (inr b) (inr c') (inr d) (inr f) (inr g) (inl e) k = rw e (IsUtf8-are_ascii (codes "&#10;") refl)
    go (inr a) (inr b) (inr c') (inr d) (inr f) (inr g) (inr h) (inl e) = rw e (IsUtf8-are_ascii (codes "&#13;") refl)
    go (inr a) (inr b) (inr c') (inr d) (inr f) (inr g) (inr h) (inr k) =
        rw (ne_eqb c 0x26 a, ne_eqb c 0x3C b, ne_eqb c 0x3E c', ne_eqb c 0x22 d, ne_eqb c 0x27 f, ne_eqb c 0x09 g, ne_eqb c 0x0A h, ne_eqb c 0x0D k)
        (IsUtf8-are_ascii (c ∷ []) (and_from (nat_lt c 128) true (lt-ltb c 128 small) refl))

char_utf8 : (c : ℕ) → scalar c ≡ true → IsUtf8 (escape (encode_utf8 c))
unfolding escaped
char_utf8 c is = go (cases_lt c 128)
  where
    go : (c < 128) ⊎ (128 ≤ c) → IsUtf8 (escape (encode_utf8 c))
    go (inl small) = subst (λ l. IsUtf8 (escape l)) (sym (encode_ascii c small)) (IsUtf8-append (spell entity c) [] (spell_utf8 c small) IsUtf8-nil)
    go (inr big) = subst IsUtf8 (sym (escape_high (encode_utf8 c) (all_high c (bytes_of c big)))) (IsUtf8-encode c is)

chars_utf8 : (cs : List ℕ) → scalars cs ≡ true → IsUtf8 (escape (encode_utf8_all cs))
unfolding escaped
chars_utf8 [] all = IsUtf8-nil
chars_utf8 (c ∷ cs) all =
    let parts = and_parts (scalar c) (scalars cs) all in
    subst IsUtf8 (sym (escape-append (encode_utf8 c) (encode_utf8_all cs))) (IsUtf8-append (escape (encode_utf8 c)) (escape (encode_utf8_all cs)) (char_utf8 c parts.0) (chars_utf8 cs parts.1))

char_held : (c : ℕ) (holds : Bool) → scalar c ≡ true → scalar (if holds then c else 0xFFFD) ≡ true
char_held c true is = is
char_held c false is = refl

chars_held : (cs : List ℕ) → scalars cs ≡ true → scalars (map held_char cs) ≡ true
chars_held [] all = refl
chars_held (c ∷ cs) all =
    let parts = and_parts (scalar c) (scalars cs) all in
    and_from (scalar (held_char c)) (scalars (map held_char cs)) (char_held c (is_held c) parts.0) (chars_held cs parts.1)

pub shown_utf8 : (text : List ℕ) → IsUtf8 text → IsUtf8 (shown text)
unfolding held
shown_utf8 text utf8 = chars_utf8 (map held_char (chars text)) (chars_held (chars text) (scalars-chars text utf8))

pub figures_ascii : (text : List ℕ) → list_all is_figure text ≡ true → are_ascii text ≡ true
figures_ascii [] all = refl
figures_ascii (x ∷ xs) all =
    let parts = and_parts (is_figure x) (list_all is_figure xs) all in
    let mine = and_parts (nat_le 0x30 x) (nat_le x 0x39) parts.0 in
    and_from (nat_lt x 128) (are_ascii xs) (lt-ltb x 128 (omega (arith, leb-true x 0x39 mine.1))) (figures_ascii xs parts.1)

pub decimal_utf8 : (n : ℕ) (rest : List ℕ) → IsUtf8 rest → IsUtf8 (decimal n ++ rest)
decimal_utf8 n rest utf8 = ascii_on (decimal n) rest (figures_ascii (decimal n) (decimal_figures n)) utf8

pub source_utf8 : (code : Option (List ℕ)) (rest : List ℕ) → IsOptionUtf8 code → IsUtf8 rest → IsUtf8 (source_attribute code ++ rest)
unfolding attribute
source_utf8 None rest own utf8 = utf8
source_utf8 (Some code) rest own utf8 =
    subst IsUtf8 (sym (spelled_out (codes "source") (shown code) rest)) (ascii_on (codes " source=\"") (shown code ++ 0x22 ∷ rest) refl (IsUtf8-append (shown code) (0x22 ∷ rest) (shown_utf8 code own) (ascii_on (codes "\"") rest refl utf8)))

pub rows_utf8 : {X : Type 0} (behind : X → List ℕ → List ℕ) (Fits : X → Type 0) → ((x : X) (rest : List ℕ) → Fits x → IsUtf8 rest → IsUtf8 (0x3C ∷ behind x rest)) → (xs : List X) (end : List ℕ) → ByRecursion Fits xs → IsUtf8 end → IsUtf8 (rows_then behind xs end)
rows_utf8 behind Fits each [] end all utf8 = utf8
rows_utf8 behind Fits each (x ∷ xs) end all utf8 =
    each x (0x0A ∷ rows_then behind xs end) all.0 (ascii_on (codes "\n") (rows_then behind xs end) refl (rows_utf8 behind Fits each xs end all.1 utf8))
