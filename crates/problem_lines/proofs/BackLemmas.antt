-- The parts of a line that was written are those of its problem.
use Rattle.std.proofs.Common.{◌≡◌, ◌≢◌, ℕ, zero, suc, ◌^◌, ◌<◌, ◌≤◌, false, ◌==◌, List, [], ◌∷◌, ◌++◌, length, get_or, Option, Some, None, option_map, unwrap_or, decimal, refl, sym, ap, ap₂, ◌∙◌, subst, inl, inr, ◌⊎◌, arith, append_assoc}
use Rattle.std.specs.List.{position_or_len, flat_map}
use Rattle.std.proofs.lemmas.Bool.{cases_eq, ne_eqb, eq-eqb, lt-ltb}
use Rattle.std.proofs.lemmas.List.{length-append, take_at, get_or_at, get_or_append_left}
use Rattle.std.proofs.lemmas.List.Sums.{position_or_len_is}
use Rattle.std.proofs.lemmas.Str.Parse.{digit_at}
use Rattle.std.proofs.lemmas.Fmt.{decimal_is_IsNumeral}
use Rattle.std.proofs.Math.Seq.{drop-append-add}
use Rattle.oxc_protocol.specs.declared.protocol.Severity.{Severity}
use Rattle.oxc_protocol.specs.declared.protocol.Severity.TheVariants.{Error, Warning, Advice}
use Rattle.oxc_protocol.specs.declared.reporter.InfoPosition.{InfoPosition}
use Rattle.problem_lines.specs.declared.escape.Field.{Field}
use Rattle.problem_lines.specs.declared.escape.Field.TheVariants.{Name, Rule, Message}
use Rattle.oxc_protocol.specs.Info.{InfoParts}
use Rattle.problem_lines.specs.Escape.{own_letter, letter_of, spelled, escape_byte, escape}
use Rattle.problem_lines.specs.Line.{severity_name, place_text, rule_text, head_text, tail_text, problem_line, IsInRange}
use Rattle.problem_lines.specs.Parsed.{place_at, severity_at, rule_at, head_at, tail_at, parsed, unescape_from, unescape, unescaped}
use Rattle.problem_lines.specs.Read.{IsRead}
use Rattle.escapes.specs.Cuts.{cut_at, behind}
use Rattle.escapes.proofs.CutLemmas.{last_taken, number_back}

-- ---- a cut at a byte that does not stand before

abbrev pub Free : ℕ → List ℕ → Type 0
Free byte xs = (k : ℕ) → k < length xs → get_or xs k 0 ≡ byte → ⊥

pub free_append : (byte : ℕ) (xs ys : List ℕ) → Free byte xs → Free byte ys → Free byte (xs ++ ys)
free_append byte [] ys left right k h e = right k h e
free_append byte (x ∷ xs) ys left right zero h e = left 0 (omega arith) e
free_append byte (x ∷ xs) ys left right (suc k) h e = free_append byte xs ys (λ j l. left (suc j) (omega arith)) right k (omega arith) e

cut_here : (byte : ℕ) (xs ys : List ℕ) → Free byte xs → cut_at byte (xs ++ byte ∷ ys) ≡ Some (xs, ys)
unfolding cut_at
cut_here byte xs ys free =
    let text = xs ++ byte ∷ ys in
    let long : length xs < length text = omega (arith, length-append xs (byte ∷ ys)) in
    let place : position_or_len (λ b. b == byte) text ≡ length xs =
    position_or_len_is (λ b. b == byte) text (length xs) 0 (omega (arith, long))
    (λ k lt. ne_eqb (get_or text k 0) byte (λ e. free k lt (sym (get_or_append_left xs (byte ∷ ys) 0 k lt) ∙ e)))
    (λ lt. eq-eqb (get_or text (length xs) 0) byte (get_or_at xs byte ys 0 (length xs) refl)) in
    rw (place, lt-ltb (length xs) (length text) long) (ap₂ (λ a b. Some (a, b)) (take_at xs (byte ∷ ys) (length xs) refl) (drop-append-add xs (byte ∷ ys) 1))

-- ---- what does not stand in escaped texts and numbers

pub pair_free : (byte a b : ℕ) → a ≢ byte → b ≢ byte → Free byte (a ∷ b ∷ [])
pair_free byte a b first second zero h e = first e
pair_free byte a b first second (suc zero) h e = second e
pair_free byte a b first second (suc (suc k)) h e = omega arith

pub one_free : (byte a : ℕ) → a ≢ byte → Free byte (a ∷ [])
one_free byte a other zero h e = other e
one_free byte a other (suc k) h e = omega arith

-- the byte of a kind of text is escaped, and no letter is that byte
abbrev own_byte : Field → ℕ
own_byte Name = 0x3A
own_byte Rule = 0x5D
own_byte Message = 0x0A

own_free : (field : Field) (x : ℕ) → x ≢ 0x0A → Free (own_byte field) (spelled x (own_letter field x))
own_free Name x lf = go (cases_eq x 0x3A)
  where
    go : (x ≡ 0x3A) ⊎ (x ≡ 0x3A → ⊥) → Free 0x3A (spelled x (own_letter Name x))
    go (inl e) = rw e (pair_free 0x3A 0x5C 0x63 (λ e. omega arith) (λ e. omega arith))
    go (inr ne) = rw (ne_eqb x 0x3A ne) (one_free 0x3A x ne)
own_free Rule x lf = go (cases_eq x 0x5D)
  where
    go : (x ≡ 0x5D) ⊎ (x ≡ 0x5D → ⊥) → Free 0x5D (spelled x (own_letter Rule x))
    go (inl e) = rw e (pair_free 0x5D 0x5C 0x62 (λ e. omega arith) (λ e. omega arith))
    go (inr ne) = rw (ne_eqb x 0x5D ne) (one_free 0x5D x ne)
own_free Message x lf = one_free 0x0A x lf

byte_free : (field : Field) (x : ℕ) → Free (own_byte field) (escape_byte field x)
unfolding escape_byte letter_of
byte_free field x = go (cases_eq x 0x5C) (cases_eq x 0x0A) (cases_eq x 0x0D)
  where
    low : (field : Field) (letter : ℕ) → (letter ≡ 0x5C) ⊎ (0x6E ≤ letter) → letter ≢ own_byte field
    low Name letter (inl is) e = omega arith
    low Name letter (inr is) e = omega arith
    low Rule letter (inl is) e = omega arith
    low Rule letter (inr is) e = omega arith
    low Message letter (inl is) e = omega arith
    low Message letter (inr is) e = omega arith

    go : (x ≡ 0x5C) ⊎ (x ≡ 0x5C → ⊥) → (x ≡ 0x0A) ⊎ (x ≡ 0x0A → ⊥) → (x ≡ 0x0D) ⊎ (x ≡ 0x0D → ⊥) → Free (own_byte field) (escape_byte field x)
    go (inl e) b c = rw e (pair_free (own_byte field) 0x5C 0x5C (low field 0x5C (inl refl)) (low field 0x5C (inl refl)))
    go (inr a) (inl e) c = rw e (pair_free (own_byte field) 0x5C 0x6E (low field 0x5C (inl refl)) (low field 0x6E (inr (omega arith))))
    go (inr a) (inr b) (inl e) = rw e (pair_free (own_byte field) 0x5C 0x72 (low field 0x5C (inl refl)) (low field 0x72 (inr (omega arith))))
    go (inr a) (inr b) (inr c) = rw (ne_eqb x 0x5C a, ne_eqb x 0x0A b, ne_eqb x 0x0D c) (own_free field x b)

escape_free : (field : Field) (text : List ℕ) → Free (own_byte field) (escape field text)
unfolding escape
escape_free field [] k h e = omega arith
escape_free field (x ∷ xs) k h e = free_append (own_byte field) (escape_byte field x) (flat_map (escape_byte field) xs) (byte_free field x) (escape_free field xs) k h e

decimal_free : (n : ℕ) → n < 2 ^ 64 → Free 0x3A (decimal n)
decimal_free n small k h e = let d = digit_at (decimal n) k (decimal_is_IsNumeral n small).0.1 h in omega (arith, d, e)

-- ---- the parts

place_shape : (a b ys : List ℕ) → (a ++ 0x3A ∷ [] ++ b ++ 0x3A ∷ []) ++ ys ≡ a ++ 0x3A ∷ (b ++ 0x3A ∷ ys)
place_shape a b ys = simp append_assoc

place_back : (place : InfoPosition) (ys : List ℕ) → place.line < 2 ^ 64 → place.column < 2 ^ 64 → place_at (place_text place ++ ys) ≡ Some (place, ys)
unfolding place_at place_text
place_back place ys line column =
    rw (place_shape (decimal place.line) (decimal place.column) ys, cut_here 0x3A (decimal place.line) (decimal place.column ++ 0x3A ∷ ys) (decimal_free place.line line))
    (rw (cut_here 0x3A (decimal place.column) ys (decimal_free place.column column)) (rw (number_back place.line line, number_back place.column column) refl))

head_shape : (a b c ys : List ℕ) → (a ++ 0x3A ∷ [] ++ b ++ c) ++ ys ≡ a ++ 0x3A ∷ (b ++ (c ++ ys))
head_shape a b c ys = simp append_assoc

head_back : (p : InfoParts) (ys : List ℕ) → IsInRange p → head_at (head_text p ++ ys) ≡ Some (escape Name p.filename, p.start, p.end, ys)
unfolding head_at head_text
head_back p ys small =
    rw (head_shape (escape Name p.filename) (place_text p.start) (place_text p.end) ys, cut_here 0x3A (escape Name p.filename) (place_text p.start ++ (place_text p.end ++ ys)) (escape_free Name p.filename))
    (rw (place_back p.start (place_text p.end ++ ys) small.start.line small.start.column) (rw (place_back p.end ys small.end.line small.end.column) refl))

severity_back : (severity : Severity) (ys : List ℕ) → severity_at (severity_name severity ++ ys) ≡ Some (severity, ys)
unfolding severity_at behind
severity_back Error ys = refl
severity_back Warning ys = refl
severity_back Advice ys = refl

rule_shape : (a ys : List ℕ) → (0x5B ∷ [] ++ a ++ 0x5D ∷ []) ++ ys ≡ 0x5B ∷ (a ++ 0x5D ∷ ys)
rule_shape a ys = simp append_assoc

rule_back : (rule : Option (List ℕ)) (ys : List ℕ) → rule_at (rule_text rule ++ 0x3A ∷ ys) ≡ Some (option_map (escape Rule) rule, 0x3A ∷ ys)
unfolding rule_at rule_text behind
rule_back None ys = refl
rule_back (Some rule) ys =
    ap rule_at (rule_shape (escape Rule rule) (0x3A ∷ ys)) ∙ ap (option_map (λ parts. (Some parts.0, parts.1))) (cut_here 0x5D (escape Rule rule) (0x3A ∷ ys) (escape_free Rule rule))

tail_shape : (a b c : List ℕ) → 0x20 ∷ [] ++ a ++ b ++ 0x3A ∷ 0x20 ∷ [] ++ c ++ 0x0A ∷ [] ≡ 0x20 ∷ (a ++ (b ++ 0x3A ∷ 0x20 ∷ (c ++ 0x0A ∷ [])))
tail_shape a b c = simp append_assoc

tail_back : (p : InfoParts) → tail_at (tail_text p) ≡ Some (p.severity, option_map (escape Rule) p.rule_id, escape Message p.message)
unfolding tail_at tail_text behind
tail_back p =
    ap tail_at (tail_shape (severity_name p.severity) (rule_text p.rule_id) (escape Message p.message))
    ∙ rw (severity_back p.severity (rule_text p.rule_id ++ 0x3A ∷ 0x20 ∷ (escape Message p.message ++ 0x0A ∷ [])))
    (rw (rule_back p.rule_id (0x20 ∷ (escape Message p.message ++ 0x0A ∷ []))) (rw (last_taken 0x0A (escape Message p.message)) refl))

abbrev pub escaped : InfoParts → InfoParts
escaped p = record { start = p.start; end = p.end; filename = escape Name p.filename; message = escape Message p.message; severity = p.severity; rule_id = option_map (escape Rule) p.rule_id }

pub parsed_back : (p : InfoParts) → IsInRange p → parsed (problem_line p) ≡ Some (escaped p)
unfolding parsed problem_line
parsed_back p small = rw (head_back p (tail_text p) small) (rw (tail_back p) refl)

-- ---- escapes turned back

own_returns : (field : Field) (x : ℕ) (rest : List ℕ) → x ≢ 0x5C → unescape_from false (spelled x (own_letter field x) ++ rest) ≡ x ∷ unescape_from false rest
unfolding unescape_from
own_returns Name x rest plain = go (cases_eq x 0x3A)
  where
    go : (x ≡ 0x3A) ⊎ (x ≡ 0x3A → ⊥) → unescape_from false (spelled x (own_letter Name x) ++ rest) ≡ x ∷ unescape_from false rest
    go (inl e) = rw e refl
    go (inr ne) = rw (ne_eqb x 0x3A ne, ne_eqb x 0x5C plain) refl
own_returns Rule x rest plain = go (cases_eq x 0x5D)
  where
    go : (x ≡ 0x5D) ⊎ (x ≡ 0x5D → ⊥) → unescape_from false (spelled x (own_letter Rule x) ++ rest) ≡ x ∷ unescape_from false rest
    go (inl e) = rw e refl
    go (inr ne) = rw (ne_eqb x 0x5D ne, ne_eqb x 0x5C plain) refl
own_returns Message x rest plain = rw (ne_eqb x 0x5C plain) refl

byte_returns : (field : Field) (x : ℕ) (rest : List ℕ) → unescape_from false (escape_byte field x ++ rest) ≡ x ∷ unescape_from false rest
unfolding escape_byte letter_of unescape_from
byte_returns field x rest = go (cases_eq x 0x5C) (cases_eq x 0x0A) (cases_eq x 0x0D)
  where
    go : (x ≡ 0x5C) ⊎ (x ≡ 0x5C → ⊥) → (x ≡ 0x0A) ⊎ (x ≡ 0x0A → ⊥) → (x ≡ 0x0D) ⊎ (x ≡ 0x0D → ⊥) → unescape_from false (escape_byte field x ++ rest) ≡ x ∷ unescape_from false rest
    go (inl e) b c = rw e refl
    go (inr a) (inl e) c = rw e refl
    go (inr a) (inr b) (inl e) = rw e refl
    go (inr a) (inr b) (inr c) = rw (ne_eqb x 0x5C a, ne_eqb x 0x0A b, ne_eqb x 0x0D c) (own_returns field x rest a)

unescape_back : (field : Field) (text : List ℕ) → unescape (escape field text) ≡ text
unfolding escape unescape_from
unescape_back field [] = refl
unescape_back field (x ∷ xs) = byte_returns field x (flat_map (escape_byte field) xs) ∙ ap (λ l. x ∷ l) (unescape_back field xs)

rule_returns : (rule : Option (List ℕ)) → option_map unescape (option_map (escape Rule) rule) ≡ rule
rule_returns None = refl
rule_returns (Some rule) = ap Some (unescape_back Rule rule)

pub returns_whole : (p : InfoParts) → unescaped (escaped p) ≡ p
returns_whole p =
    λ i. record { start = p.start; end = p.end; filename = unescape_back Name p.filename i; message = unescape_back Message p.message i; severity = p.severity; rule_id = rule_returns p.rule_id i }

-- ---- a line that was read

known : (text : List ℕ) (parts info p : InfoParts) → Some parts ≡ parsed text → info ≡ unescaped parts → IsInRange p → problem_line p ≡ text → info ≡ p
known text parts info p found is small line =
    let same : Some parts ≡ Some (escaped p) = found ∙ sym (ap parsed line) ∙ parsed_back p small in
    is ∙ ap (λ o. unescaped (unwrap_or o parts)) same ∙ returns_whole p

pub read_none : (text : List ℕ) → None ≡ parsed text → IsRead text None
read_none text nothing = record { back = λ p small line. absurd (differ p (nothing ∙ sym (ap parsed line) ∙ parsed_back p small)); only = tt }
  where
    differ : (p : InfoParts) → None ≡ Some (escaped p) → ⊥
    differ p e = cc

in_range : (parts info : InfoParts) → info ≡ unescaped parts → IsInRange parts → IsInRange info
in_range parts info is small = subst IsInRange (sym is) (record { start = small.start; end = small.end })

pub read_some : (text : List ℕ) (parts info : InfoParts) → Some parts ≡ parsed text → IsInRange parts → info ≡ unescaped parts → problem_line info ≡ text → IsRead text (Some info)
read_some text parts info found low is line = record { back = λ p small same. ap Some (known text parts info p found is small same); only = (in_range parts info is low, line) }

pub read_other : (text : List ℕ) (parts info : InfoParts) → Some parts ≡ parsed text → info ≡ unescaped parts → problem_line info ≢ text → IsRead text None
read_other text parts info found is other =
    record { back = λ p small same. absurd (other (ap problem_line (known text parts info p found is small same) ∙ same)); only = tt }

pub ruleset read_a_line = (read_none, read_some, read_other)
