-- In what is written nothing is that XML can't hold.
use Rattle.std.proofs.Common.{◌≡◌, ◌∙◌, ℕ, ◌+◌, ◌<◌, ◌≤◌, ◌/◌, ◌%◌, ◌==◌, ◌||◌, ◌&&◌, nat_eq, nat_le, nat_lt, not, if◌then◌else◌, List, [], ◌∷◌, ◌++◌, map, Bool, true, false, Option, Some, None, is_some, ap, ap₂, arith, refl, sym, inl, inr, ◌⊎◌, append_assoc, get_or}
use Rattle.std.specs.Char.{encode_utf8}
use Rattle.std.specs.List.{flat_map, list_all, starts_with}
use Rattle.std.specs.Str.{bytes_eq, chars, encode_utf8_all}
use Rattle.std.proofs.lemmas.Bool.{and_from, and_left, and_parts, cases_eq, cases_lt, eqb-true, false_from_ne_true, le-leb, le-ltb, leb-true, lt-ltb, ltb-true, ne_eqb, or_cases, or_from}
use Rattle.std.proofs.lemmas.Nat.{div-add-mod', div_below, mod_below}
use Rattle.std.proofs.lemmas.Slice.Eq.{bytes_eq-Decides}
use Rattle.std.proofs.lemmas.Str.{encode_ascii}
use Rattle.escapes.specs.Escape.{escaped, spell, spelled_as}
use Rattle.ci_formats.specs.Xml.{entity, escape, held, held_char, is_held, shown}
use Rattle.ci_formats.specs.XmlAscii.{entity_ascii}
use Rattle.xml_values.specs.Document.{begins_control, begins_no_char, from_no_char}
use Rattle.xml_values.specs.Marks.{is_blank}

-- no character begins in a text that XML can't hold
abbrev pub is_quiet : List ℕ → Type 0
is_quiet bytes = from_no_char bytes ≡ None

stop_if : ℕ → List ℕ → Bool → Option (List ℕ)
stop_if x xs begins = if begins then Some (x ∷ xs) else from_no_char xs

pub one_on : (x : ℕ) (xs : List ℕ) → begins_no_char (x ∷ xs) ≡ false → is_quiet xs → is_quiet (x ∷ xs)
unfolding stop_if
one_on x xs none quiet = ap (stop_if x xs) none ∙ quiet

-- ---- where U+FFFE or U+FFFF could begin

no_control : (x : ℕ) (xs : List ℕ) → 0x20 ≤ x → begins_control (x ∷ xs) ≡ false
no_control x xs high = and_left (nat_lt x 0x20) (not (is_blank x)) (le-ltb x 0x20 high)

abbrev begins_with : ℕ → List ℕ → Bool
begins_with last bytes = starts_with nat_eq bytes (0xEF ∷ 0xBF ∷ last ∷ [])

begins_not : (x last : ℕ) (xs : List ℕ) → (0xEF ≡ x → ⊥) → begins_with last (x ∷ xs) ≡ false
begins_not x last xs other = rw (ne_eqb 0xEF x other) refl

other_lead : (x : ℕ) (xs : List ℕ) → 0x20 ≤ x → (0xEF ≡ x → ⊥) → begins_no_char (x ∷ xs) ≡ false
other_lead x xs high other =
    or_from (begins_control (x ∷ xs)) (begins_with 0xBE (x ∷ xs) || begins_with 0xBF (x ∷ xs)) (no_control x xs high)
    (or_from (begins_with 0xBE (x ∷ xs)) (begins_with 0xBF (x ∷ xs)) (begins_not x 0xBE xs other) (begins_not x 0xBF xs other))

pub low_on : (x : ℕ) (xs : List ℕ) → 0x20 ≤ x → x < 0xEF → is_quiet xs → is_quiet (x ∷ xs)
low_on x xs high low quiet = one_on x xs (other_lead x xs high (λ e. omega (arith, e, low))) quiet

not_three : (a b c last : ℕ) (xs : List ℕ) → (0xEF ≡ a → 0xBF ≡ b → last ≡ c → ⊥) → begins_with last (a ∷ b ∷ c ∷ xs) ≡ false
not_three a b c last xs other = false_from_ne_true (bytes_eq (0xEF ∷ 0xBF ∷ last ∷ []) (a ∷ b ∷ c ∷ [])) clash
  where
    clash : bytes_eq (0xEF ∷ 0xBF ∷ last ∷ []) (a ∷ b ∷ c ∷ []) ≡ true → ⊥
    clash is =
        let same = (bytes_eq-Decides (0xEF ∷ 0xBF ∷ last ∷ []) (a ∷ b ∷ c ∷ [])).0 is in
        other (ap (λ l. get_or l 0 0) same) (ap (λ l. get_or l 1 0) same) (ap (λ l. get_or l 2 0) same)

three_lead : (a b c : ℕ) (xs : List ℕ) → 0x20 ≤ a → (0xEF ≡ a → 0xBF ≡ b → 0xBE ≡ c → ⊥) → (0xEF ≡ a → 0xBF ≡ b → 0xBF ≡ c → ⊥) → begins_no_char (a ∷ b ∷ c ∷ xs) ≡ false
three_lead a b c xs high first second =
    or_from (begins_control (a ∷ b ∷ c ∷ xs)) (begins_with 0xBE (a ∷ b ∷ c ∷ xs) || begins_with 0xBF (a ∷ b ∷ c ∷ xs)) (no_control a (b ∷ c ∷ xs) high)
    (or_from (begins_with 0xBE (a ∷ b ∷ c ∷ xs)) (begins_with 0xBF (a ∷ b ∷ c ∷ xs)) (not_three a b c 0xBE xs first) (not_three a b c 0xBF xs second))

-- ---- which characters are held

held_low : (c : ℕ) → is_held c ≡ true → c < 128 → (c ≡ 0x09 → ⊥) → (c ≡ 0x0A → ⊥) → (c ≡ 0x0D → ⊥) → 0x20 ≤ c
held_low c is small tab lf cr = go (or_cases (nat_le 0x20 c && nat_lt c 0xFFFE) (c == 0x09 || (c == 0x0A || (c == 0x0D || nat_le 0x1_0000 c))) is)
  where
    fourth : (nat_le 0x1_0000 c ≡ true) → 0x20 ≤ c
    fourth e = omega (arith, leb-true 0x1_0000 c e)

    third : ((c == 0x0D) ≡ true) ⊎ (nat_le 0x1_0000 c ≡ true) → 0x20 ≤ c
    third (inl e) = absurd (cr (eqb-true c 0x0D e))
    third (inr e) = fourth e

    second : ((c == 0x0A) ≡ true) ⊎ ((c == 0x0D || nat_le 0x1_0000 c) ≡ true) → 0x20 ≤ c
    second (inl e) = absurd (lf (eqb-true c 0x0A e))
    second (inr e) = third (or_cases (c == 0x0D) (nat_le 0x1_0000 c) e)

    first : ((c == 0x09) ≡ true) ⊎ ((c == 0x0A || (c == 0x0D || nat_le 0x1_0000 c)) ≡ true) → 0x20 ≤ c
    first (inl e) = absurd (tab (eqb-true c 0x09 e))
    first (inr e) = second (or_cases (c == 0x0A) (c == 0x0D || nat_le 0x1_0000 c) e)

    go : ((nat_le 0x20 c && nat_lt c 0xFFFE) ≡ true) ⊎ ((c == 0x09 || (c == 0x0A || (c == 0x0D || nat_le 0x1_0000 c))) ≡ true) → 0x20 ≤ c
    go (inl e) = leb-true 0x20 c (and_parts (nat_le 0x20 c) (nat_lt c 0xFFFE) e).0
    go (inr e) = first (or_cases (c == 0x09) (c == 0x0A || (c == 0x0D || nat_le 0x1_0000 c)) e)

held_high : (c : ℕ) → is_held c ≡ true → 128 ≤ c → c < 0x1_0000 → c < 0xFFFE
held_high c is big under = go (or_cases (nat_le 0x20 c && nat_lt c 0xFFFE) (c == 0x09 || (c == 0x0A || (c == 0x0D || nat_le 0x1_0000 c))) is)
  where
    third : ((c == 0x0D) ≡ true) ⊎ (nat_le 0x1_0000 c ≡ true) → c < 0xFFFE
    third (inl e) = absurd (omega (arith, eqb-true c 0x0D e, big))
    third (inr e) = absurd (omega (arith, leb-true 0x1_0000 c e, under))

    second : ((c == 0x0A) ≡ true) ⊎ ((c == 0x0D || nat_le 0x1_0000 c) ≡ true) → c < 0xFFFE
    second (inl e) = absurd (omega (arith, eqb-true c 0x0A e, big))
    second (inr e) = third (or_cases (c == 0x0D) (nat_le 0x1_0000 c) e)

    first : ((c == 0x09) ≡ true) ⊎ ((c == 0x0A || (c == 0x0D || nat_le 0x1_0000 c)) ≡ true) → c < 0xFFFE
    first (inl e) = absurd (omega (arith, eqb-true c 0x09 e, big))
    first (inr e) = second (or_cases (c == 0x0A) (c == 0x0D || nat_le 0x1_0000 c) e)

    go : ((nat_le 0x20 c && nat_lt c 0xFFFE) ≡ true) ⊎ ((c == 0x09 || (c == 0x0A || (c == 0x0D || nat_le 0x1_0000 c))) ≡ true) → c < 0xFFFE
    go (inl e) = ltb-true c 0xFFFE (and_parts (nat_le 0x20 c) (nat_lt c 0xFFFE) e).1
    go (inr e) = first (or_cases (c == 0x09) (c == 0x0A || (c == 0x0D || nat_le 0x1_0000 c)) e)

keeps : (c : ℕ) (holds : Bool) → is_held c ≡ holds → is_held (if holds then c else 0xFFFD) ≡ true
keeps c true is = is
keeps c false is = refl

pub held_is_held : (c : ℕ) → is_held (held_char c) ≡ true
held_is_held c = keeps c (is_held c) refl

-- ---- the bytes of a character

high_none : (x : ℕ) (own : Option (List ℕ)) → entity x ≡ own → 128 ≤ x → entity x ≡ None
high_none x None is big = is
high_none x (Some text) is big = absurd (omega (arith, entity_ascii x (ap is_some is), big))

pub escape_high : (text : List ℕ) → list_all (nat_le 0x80) text ≡ true → escape text ≡ text
unfolding escaped
escape_high [] all = refl
escape_high (x ∷ xs) all =
    let parts = and_parts (nat_le 0x80 x) (list_all (nat_le 0x80) xs) all in
    ap₂ (λ a b. a ++ b) (ap (spelled_as x) (high_none x (entity x) refl (leb-true 0x80 x parts.0))) (escape_high xs parts.1)

abbrev follow : ℕ → ℕ
follow bits = 128 + bits % 64

follows : (bits : ℕ) → (0x80 ≤ follow bits) × (follow bits < 0xC0)
follows bits = (omega arith, omega (arith, mod_below bits 64 (omega arith)))

-- what a character is as bytes, from 128 on
pub data Bytes (c : ℕ) : Type 0 where
  two : encode_utf8 c ≡ (192 + c / 64) ∷ follow c ∷ [] → c < 2048 → Bytes c
  three : encode_utf8 c ≡ (224 + c / 4096) ∷ follow (c / 64) ∷ follow c ∷ [] → c < 65536 → Bytes c
  four : encode_utf8 c ≡ (240 + c / 262144) ∷ follow (c / 4096) ∷ follow (c / 64) ∷ follow c ∷ [] → Bytes c

pub bytes_of : (c : ℕ) → 128 ≤ c → Bytes c
unfolding encode_utf8
bytes_of c big = go (cases_lt c 2048) (cases_lt c 65536)
  where
    go : (c < 2048) ⊎ (2048 ≤ c) → (c < 65536) ⊎ (65536 ≤ c) → Bytes c
    go (inl a) b = two (rw (le-ltb c 128 big, lt-ltb c 2048 a) refl) a
    go (inr a) (inl b) = three (rw (le-ltb c 128 big, le-ltb c 2048 a, lt-ltb c 65536 b) refl) b
    go (inr a) (inr b) = four (rw (le-ltb c 128 big, le-ltb c 2048 a, le-ltb c 65536 b) refl)

all_follow : (bits : ℕ) (rest : List ℕ) → list_all (nat_le 0x80) rest ≡ true → list_all (nat_le 0x80) (follow bits ∷ rest) ≡ true
all_follow bits rest all = and_from (nat_le 0x80 (follow bits)) (list_all (nat_le 0x80) rest) (le-leb 0x80 (follow bits) (follows bits).0) all

all_after : (lead : ℕ) (rest : List ℕ) → 0x80 ≤ lead → list_all (nat_le 0x80) rest ≡ true → list_all (nat_le 0x80) (lead ∷ rest) ≡ true
all_after lead rest high all = and_from (nat_le 0x80 lead) (list_all (nat_le 0x80) rest) (le-leb 0x80 lead high) all

pub all_high : (c : ℕ) → Bytes c → list_all (nat_le 0x80) (encode_utf8 c) ≡ true
all_high c (two is low) = rw is (all_after (192 + c / 64) (follow c ∷ []) (omega arith) (all_follow c [] refl))
all_high c (three is low) = rw is (all_after (224 + c / 4096) (follow (c / 64) ∷ follow c ∷ []) (omega arith) (all_follow (c / 64) (follow c ∷ []) (all_follow c [] refl)))
all_high c (four is) =
    rw is (all_after (240 + c / 262144) (follow (c / 4096) ∷ follow (c / 64) ∷ follow c ∷ []) (omega arith) (all_follow (c / 4096) (follow (c / 64) ∷ follow c ∷ []) (all_follow (c / 64) (follow c ∷ []) (all_follow c [] refl))))

follow_quiet : (bits : ℕ) (rest : List ℕ) → is_quiet rest → is_quiet (follow bits ∷ rest)
follow_quiet bits rest quiet = low_on (follow bits) rest (omega arith) (omega (arith, (follows bits).1)) quiet

-- the two that XML can't hold are U+FFFE and U+FFFF
not_this : (c last : ℕ) → c < 0xFFFE → 62 ≤ last → 0xEF ≡ 224 + c / 4096 → 0xBF ≡ follow (c / 64) → 128 + last ≡ follow c → ⊥
not_this c last low at_least a b d =
    omega (arith, low, at_least, a, b, d, div-add-mod' c 64, div-add-mod' (c / 64) 64, div-add-mod' c 4096, mod_below c 4096 (omega arith))

big_quiet : (c : ℕ) (rest : List ℕ) → is_held c ≡ true → 128 ≤ c → is_quiet rest → Bytes c → is_quiet (encode_utf8 c ++ rest)
big_quiet c rest is big quiet (two same low) =
    rw same (low_on (192 + c / 64) (follow c ∷ rest) (omega arith) (omega (arith, div_below c 64 32 (omega arith) low)) (follow_quiet c rest quiet))
big_quiet c rest is big quiet (three same low) =
    let under = held_high c is big low in
    rw same (one_on (224 + c / 4096) (follow (c / 64) ∷ follow c ∷ rest)
    (three_lead (224 + c / 4096) (follow (c / 64)) (follow c) rest (omega arith) (λ a b d. not_this c 62 under (omega arith) a b d) (λ a b d. not_this c 63 under (omega arith) a b d))
    (follow_quiet (c / 64) (follow c ∷ rest) (follow_quiet c rest quiet)))
big_quiet c rest is big quiet (four same) =
    rw same (one_on (240 + c / 262144) (follow (c / 4096) ∷ follow (c / 64) ∷ follow c ∷ rest) (other_lead (240 + c / 262144) (follow (c / 4096) ∷ follow (c / 64) ∷ follow c ∷ rest) (omega arith) (λ e. omega (arith, e)))
    (follow_quiet (c / 4096) (follow (c / 64) ∷ follow c ∷ rest) (follow_quiet (c / 64) (follow c ∷ rest) (follow_quiet c rest quiet))))

-- ---- a character that is escaped

small_quiet : (c : ℕ) (rest : List ℕ) → is_held c ≡ true → c < 128 → is_quiet rest → is_quiet (spell entity c ++ rest)
unfolding entity
small_quiet c rest is small quiet = go (cases_eq c 0x26) (cases_eq c 0x3C) (cases_eq c 0x3E) (cases_eq c 0x22) (cases_eq c 0x27) (cases_eq c 0x09) (cases_eq c 0x0A) (cases_eq c 0x0D)
  where
    go : (c ≡ 0x26) ⊎ (c ≡ 0x26 → ⊥) → (c ≡ 0x3C) ⊎ (c ≡ 0x3C → ⊥) → (c ≡ 0x3E) ⊎ (c ≡ 0x3E → ⊥) → (c ≡ 0x22) ⊎ (c ≡ 0x22 → ⊥) → (c ≡ 0x27) ⊎ (c ≡ 0x27 → ⊥)
        → (c ≡ 0x09) ⊎ (c ≡ 0x09 → ⊥) → (c ≡ 0x0A) ⊎ (c ≡ 0x0A → ⊥) → (c ≡ 0x0D) ⊎ (c ≡ 0x0D → ⊥) → is_quiet (spell entity c ++ rest)
    go (inl e) b c' d f g h k = rw e quiet
    go (inr a) (inl e) c' d f g h k = rw e quiet
    go (inr a) (inr b) (inl e) d f g h k = rw e quiet
    go (inr a) (inr b) (inr c') (inl e) f g h k = rw e quiet
    go (inr a) (inr b) (inr c') (inr d) (inl e) g h k = rw e quiet
    go (inr a) (inr b) (inr c') (inr d) (inr f) (inl e) h k = rw e quiet
    go (inr a) (inr b) (inr c') (inr d) (inr f) (inr g) (inl e) k = rw e quiet
    go (inr a) (inr b) (inr c') (inr d) (inr f) (inr g) (inr h) (inl e) = rw e quiet
    go (inr a) (inr b) (inr c') (inr d) (inr f) (inr g) (inr h) (inr k) =
        rw (ne_eqb c 0x26 a, ne_eqb c 0x3C b, ne_eqb c 0x3E c', ne_eqb c 0x22 d, ne_eqb c 0x27 f, ne_eqb c 0x09 g, ne_eqb c 0x0A h, ne_eqb c 0x0D k)
        (low_on c rest (held_low c is small g h k) (omega (arith, small)) quiet)

pub escape-append : (xs ys : List ℕ) → escape (xs ++ ys) ≡ escape xs ++ escape ys
unfolding escaped
escape-append [] ys = refl
escape-append (x ∷ xs) ys = ap (λ l. spell entity x ++ l) (escape-append xs ys) ∙ sym (append_assoc (spell entity x) (flat_map (spell entity) xs) (flat_map (spell entity) ys))

one_escaped : (c : ℕ) (rest : List ℕ) → escape (c ∷ []) ++ rest ≡ spell entity c ++ rest
unfolding escaped
one_escaped c rest = append_assoc (spell entity c) [] rest

char_quiet : (c : ℕ) (rest : List ℕ) → is_held c ≡ true → is_quiet rest → is_quiet (escape (encode_utf8 c) ++ rest)
char_quiet c rest is quiet = go (cases_lt c 128)
  where
    go : (c < 128) ⊎ (128 ≤ c) → is_quiet (escape (encode_utf8 c) ++ rest)
    go (inl small) = ap from_no_char (ap (λ l. escape l ++ rest) (encode_ascii c small) ∙ one_escaped c rest) ∙ small_quiet c rest is small quiet
    go (inr big) =
        let bytes = bytes_of c big in
        ap (λ l. from_no_char (l ++ rest)) (escape_high (encode_utf8 c) (all_high c bytes)) ∙ big_quiet c rest is big quiet bytes

pub text_quiet : (cs : List ℕ) (rest : List ℕ) → is_quiet rest → is_quiet (escape (encode_utf8_all (map held_char cs)) ++ rest)
unfolding escaped
text_quiet [] rest quiet = quiet
text_quiet (c ∷ cs) rest quiet =
    let first : List ℕ = encode_utf8 (held_char c) in
    let others : List ℕ = encode_utf8_all (map held_char cs) in
    ap from_no_char (ap (λ l. l ++ rest) (escape-append first others) ∙ append_assoc (escape first) (escape others) rest)
    ∙ char_quiet (held_char c) (escape others ++ rest) (held_is_held c) (text_quiet cs rest quiet)

pub shown_quiet : (text rest : List ℕ) → is_quiet rest → is_quiet (shown text ++ rest)
unfolding held
shown_quiet text rest quiet = text_quiet (chars text) rest quiet
