-- What stands in quotes, and what it is read as.
use Rattle.std.proofs.Common.{◌≡◌, ℕ, zero, suc, ◌+◌, ◌<◌, ◌≤◌, ◌/◌, ◌%◌, ◌==◌, ◌||◌, ◌&&◌, nat_le, if◌then◌else◌, List, [], ◌∷◌, ◌++◌, Bool, true, false, None, ap, ap₂, arith, decimal, refl, subst}
use Rattle.std.specs.Fmt.{digit_glyph, digits, digits_onto}
use Rattle.std.specs.List.{list_all, list_any}
use Rattle.std.proofs.lemmas.Bool.{and_from, and_parts, le-leb, leb-true, lt-ltb, ne_eqb, or_from, or_parts}
use Rattle.std.proofs.lemmas.Nat.{mod_below}
use Rattle.escapes.specs.Escape.{escaped, spelled_as}
use Rattle.ci_formats.specs.Xml.{entity, escape, held, is_markup, shown}
use Rattle.ci_formats.proofs.XmlLemmas.{xml_free}
use Rattle.finding_laws.proofs.CheckstyleLemmas.Attribute.{IsValue}
use Rattle.finding_laws.proofs.CheckstyleLemmas.Run.{has_not}
use Rattle.finding_laws.proofs.CheckstyleLemmas.TextBack.{text_back}

-- ---- no quote and no `<`

byte_free : (x : ℕ) → is_markup x ≡ false → ((x == 0x22) ≡ false) × ((x == 0x3C) ≡ false)
byte_free x none =
    let a = or_parts (x == 0x3C) (x == 0x3E || (x == 0x22 || (x == 0x27 || (x == 0x09 || (x == 0x0A || x == 0x0D))))) none in
    let b = or_parts (x == 0x3E) (x == 0x22 || (x == 0x27 || (x == 0x09 || (x == 0x0A || x == 0x0D)))) a.1 in
    let c = or_parts (x == 0x22) (x == 0x27 || (x == 0x09 || (x == 0x0A || x == 0x0D))) b.1 in
    (c.0, a.0)

no_marks : (text : List ℕ) → list_any is_markup text ≡ false → has_not 0x22 text × has_not 0x3C text
no_marks [] none = (refl, refl)
no_marks (x ∷ xs) none =
    let parts = or_parts (is_markup x) (list_any is_markup xs) none in
    let mine = byte_free x parts.0 in
    let others = no_marks xs parts.1 in
    (or_from (x == 0x22) (list_any (λ byte. byte == 0x22) xs) mine.0 others.0, or_from (x == 0x3C) (list_any (λ byte. byte == 0x3C) xs) mine.1 others.1)

pub escaped_value : (text : List ℕ) → IsValue (escape text) text
escaped_value text =
    let none = no_marks (escape text) (xml_free text) in
    record { no_quote = none.0; no_tag = none.1; back = text_back text }

pub shown_value : (text : List ℕ) → IsValue (shown text) (held text)
shown_value text = escaped_value (held text)

-- ---- numbers

abbrev pub is_figure : ℕ → Bool
is_figure byte = nat_le 0x30 byte && nat_le byte 0x39

figure_same : (x : ℕ) → is_figure x ≡ true → entity x ≡ None
unfolding entity
figure_same x is =
    let parts = and_parts (nat_le 0x30 x) (nat_le x 0x39) is in
    let low : 0x30 ≤ x = leb-true 0x30 x parts.0 in
    let high : x ≤ 0x39 = leb-true x 0x39 parts.1 in
    rw (
      ne_eqb x 0x26 (λ e. omega (arith, e, low)),
      ne_eqb x 0x3C (λ e. omega (arith, e, high)),
      ne_eqb x 0x3E (λ e. omega (arith, e, high)),
      ne_eqb x 0x22 (λ e. omega (arith, e, low)),
      ne_eqb x 0x27 (λ e. omega (arith, e, low)),
      ne_eqb x 0x09 (λ e. omega (arith, e, low)),
      ne_eqb x 0x0A (λ e. omega (arith, e, low)),
      ne_eqb x 0x0D (λ e. omega (arith, e, low)),
    )
    refl

figures_same : (text : List ℕ) → list_all is_figure text ≡ true → escape text ≡ text
unfolding escaped
figures_same [] all = refl
figures_same (x ∷ xs) all =
    let parts = and_parts (is_figure x) (list_all is_figure xs) all in
    ap₂ (λ a b. a ++ b) (ap (spelled_as x) (figure_same x parts.0)) (figures_same xs parts.1)

glyph_figure : (d : ℕ) → d < 10 → is_figure (digit_glyph false d) ≡ true
glyph_figure d low =
    rw (lt-ltb d 10 low) (and_from (nat_le 0x30 (48 + d)) (nat_le (48 + d) 0x39) (le-leb 0x30 (48 + d) (omega arith)) (le-leb (48 + d) 0x39 (omega (arith, low))))

either_all : (last : Bool) (a b : List ℕ) → list_all is_figure a ≡ true → list_all is_figure b ≡ true → list_all is_figure (if last then a else b) ≡ true
either_all true a b first second = first
either_all false a b first second = second

onto_figures : (k n : ℕ) (acc : List ℕ) → list_all is_figure acc ≡ true → list_all is_figure (digits_onto k 10 false n acc) ≡ true
onto_figures zero n acc all = all
onto_figures (suc k) n acc all =
    let glyph : ℕ = digit_glyph false (n % 10) in
    let more : list_all is_figure (glyph ∷ acc) ≡ true = and_from (is_figure glyph) (list_all is_figure acc) (glyph_figure (n % 10) (mod_below n 10 (omega arith))) all in
    either_all (n / 10 == 0) (glyph ∷ acc) (digits_onto k 10 false (n / 10) (glyph ∷ acc)) more (onto_figures k (n / 10) (glyph ∷ acc) more)

pub decimal_figures : (n : ℕ) → list_all is_figure (decimal n) ≡ true
unfolding digits
decimal_figures n = onto_figures 64 n [] refl

pub figures_value : (text : List ℕ) → list_all is_figure text ≡ true → IsValue text text
figures_value text all = subst (λ written. IsValue written text) (figures_same text all) (escaped_value text)

pub decimal_value : (n : ℕ) → IsValue (decimal n) (decimal n)
decimal_value n = figures_value (decimal n) (decimal_figures n)
