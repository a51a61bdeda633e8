-- A line that is nothing but a location ends with a digit or a colon.
use Rattle.std.proofs.Common.{◌≡◌, ℕ, zero, suc, ◌+◌, ◌-◌, ◌<◌, ◌≤◌, nat_lt, ◌==◌, ◌&&◌, ◌||◌, if◌then◌else◌, List, [], ◌∷◌, length, take, drop, get_or, Option, Some, None, Bool, true, false, refl, sym, ◌∙◌, ap, arith, eqb-true}
use Rattle.std.specs.List.{list_all, prefix_len}
use Rattle.std.specs.Option.{option_and_then, option_map, option_or}
use Rattle.std.proofs.Math.ListN.{drop_of_length-le}
use Rattle.std.proofs.lemmas.Bool.{and_parts, or_parts}
use Rattle.std.proofs.lemmas.Bool.Decides.{nat_tests}
use Rattle.std.proofs.lemmas.List.{get_or-drop, length-drop}
use Rattle.std.proofs.lemmas.List.Sums.{prefix_len_passes}
use Rattle.line_shapes.specs.declared.bytes.Kind.TheVariants.{Blank, Digit}
use Rattle.line_shapes.specs.declared.name.NameKind.{NameKind}
use Rattle.line_shapes.specs.declared.part.Figure.{Figure}
use Rattle.line_shapes.specs.declared.part.Part.{Part}
use Rattle.line_shapes.specs.declared.part.Part.TheVariants.{Blanks, Byte, Decimal, SetApart}
use Rattle.line_shapes.specs.declared.tables.Manner.TheVariants.{Plain}
use Rattle.line_shapes.specs.Bytes.{is_in, number_at, some_run, value_of}
use Rattle.line_shapes.specs.Name.{is_name}
use Rattle.line_shapes.specs.Part.{Seen, before, behind, byte_taken, fit, taken, with_figure}
use Rattle.line_shapes.specs.Place.{Place}
use Rattle.line_shapes.specs.Said.{meant, whole}
use Rattle.line_shapes.specs.Shape.{first_named, own_at}
use Rattle.line_shapes.proofs.PartLemmas.{figure_rest, left}
use Rattle.line_shapes.proofs.PlaceLemmas.{all_past}
use Rattle.tool_lines.specs.Marks.{closes, closes_with}
use Rattle.tool_lines.specs.Lines.{FindingParts, first_place, parted, places}

drop_closes : (n : ℕ) (text : List ℕ) → closes text ≡ false → closes (drop n text) ≡ false
drop_closes n text none = go (nat_lt n (length text)) refl
  where
    go : (within : Bool) → nat_lt n (length text) ≡ within → closes (drop n text) ≡ false
    go true is =
        let less : n < length text = grind (arith, nat_tests) in
        let size : length (drop n text) ≡ length text - n = length-drop n text in
        let at : n + (length (drop n text) - 1) ≡ length text - 1 = omega (arith, size, less) in
        ap closes_with (get_or-drop n text (length (drop n text) - 1) 0 ∙ ap (λ k. get_or text k 0) at) ∙ none
    go false is =
        let more : length text ≤ n = grind (arith, nat_tests) in
        ap closes (drop_of_length-le text more)

-- tokens that take bytes, blanks or numbers
abbrev is_simple : Part → Bool
is_simple (Byte byte) = true
is_simple Blanks = true
is_simple (Decimal figure) = true
is_simple SetApart = true
is_simple _ = false

mapped_closes : {A : Type 0} (f : A → Seen) (o : Option A) (t : Seen) → option_map f o ≡ Some t → ((x : A) → closes (f x).rest ≡ false) → closes t.rest ≡ false
mapped_closes f None t e none = cc
mapped_closes f (Some x) t e none = sym (ap (λ o. closes (left o)) e) ∙ none x

byte_closes : (byte : ℕ) (text : List ℕ) (s t : Seen) → byte_taken byte text s ≡ Some t → closes text ≡ false → closes t.rest ≡ false
byte_closes byte [] s t e none = cc
byte_closes byte (x ∷ xs) s t e none =
    elim (x == byte) as (λ v. (if v then Some (record s { rest = xs }) else None) ≡ Some t → closes t.rest ≡ false) [
      | true ↦ (λ e. sym (ap (λ o. closes (left o)) e) ∙ drop_closes 1 (x ∷ xs) none)
      | false ↦ (λ e. cc)
    ] e

taken_closes : (part : Part) (s t : Seen) → is_simple part ≡ true → taken part s ≡ Some t → closes s.rest ≡ false → closes t.rest ≡ false
taken_closes (Byte byte) s t is e none = byte_closes byte s.rest s t e none
taken_closes Blanks s t is e none = mapped_closes (λ (count : ℕ). behind count s) (some_run (prefix_len (is_in Blank) s.rest)) t e (λ n. drop_closes n s.rest none)
taken_closes (Decimal figure) s t is e none =
    mapped_closes (λ (it : ℕ × ℕ). with_figure figure it.1 (behind it.0 s)) (number_at s.rest) t e
    (λ it. ap closes (figure_rest figure it.1 (behind it.0 s)) ∙ drop_closes it.0 s.rest none)
taken_closes SetApart s t is e none = sym (ap (λ o. closes (left o)) e) ∙ none
taken_closes part s t is e none = cc

fit_closes_by : (part : Part) (parts : List Part) (s t : Seen) (o : Option Seen) → taken part s ≡ o → is_simple part ≡ true → ((u : Seen) → fit parts u ≡ Some t → closes u.rest ≡ false → closes t.rest ≡ false) → option_and_then (fit parts) o ≡ Some t → closes s.rest ≡ false
    → closes t.rest ≡ false
fit_closes_by part parts s t None is simple later e none = cc
fit_closes_by part parts s t (Some u) is simple later e none = later u e (taken_closes part s u simple is none)

fit_closes : (parts : List Part) (s t : Seen) → list_all is_simple parts ≡ true → fit parts s ≡ Some t → closes s.rest ≡ false → closes t.rest ≡ false
fit_closes [] s t simple e none = sym (ap (λ o. closes (left o)) e) ∙ none
fit_closes (part ∷ parts) s t simple e none =
    let two : (is_simple part ≡ true) × (list_all is_simple parts ≡ true) = and_parts (is_simple part) (list_all is_simple parts) simple in
    fit_closes_by part parts s t (taken part s) refl two.0 (λ u. fit_closes parts u t two.1) e none

-- ---- the last token of a location

abbrev whole_of : Option Seen → Option Seen
whole_of o = option_and_then (λ (found : Seen). if length found.rest == 0 then Some found else None) o

abbrev is_last : Part → Bool
is_last (Byte byte) = byte == 0x3A
is_last (Decimal figure) = true
is_last _ = false

abbrev is_apart : List Part → Bool
is_apart (SetApart ∷ []) = true
is_apart _ = false

abbrev ended : List Part → Bool
ended [] = false
ended (part ∷ parts) = (is_last part && is_apart parts) || (is_simple part && ended parts)

byte_last : (byte : ℕ) (text : List ℕ) (s : Seen) → (byte == 0x3A) ≡ true → closes text ≡ false → whole_of (option_and_then (fit (SetApart ∷ [])) (byte_taken byte text s)) ≡ None
byte_last byte [] s colon none = refl
byte_last byte (x ∷ []) s colon none =
    elim (x == byte) as (λ v. (x == byte) ≡ v → whole_of (option_and_then (fit (SetApart ∷ [])) (if v then Some (record s { rest = [] }) else None)) ≡ None) [
      | true ↦ (λ same.
          let is : x ≡ 0x3A = eqb-true x byte same ∙ eqb-true byte 0x3A colon in
          let never : closes_with x ≡ false = none in
          let always : closes_with x ≡ true = ap closes_with is in cc)
      | false ↦ (λ _. refl)
    ] refl
byte_last byte (x ∷ (y ∷ ys)) s colon none =
    let some : (length (y ∷ ys) == 0) ≡ false = grind (arith, nat_tests) in
    let apart : Seen = record s { rest = y ∷ ys; apart = true } in
    elim (x == byte) as (λ v. whole_of (option_and_then (fit (SetApart ∷ [])) (if v then Some (record s { rest = y ∷ ys }) else None)) ≡ None) [
      | true ↦ ap (λ v. if v then Some apart else None) some
      | false ↦ refl
    ]

some_digits : (n : ℕ) (text : List ℕ) (value : ℕ) → value_of (take n text) ≡ Some value → 1 ≤ n
some_digits zero text value is = cc
some_digits (suc n) text value is = omega arith

digits_left : (text : List ℕ) (value : ℕ) → value_of (take (prefix_len (is_in Digit) text) text) ≡ Some value → closes text ≡ false → (length (drop (prefix_len (is_in Digit) text) text) == 0) ≡ false
digits_left text value is none =
    let count : ℕ = prefix_len (is_in Digit) text in
    elim (length (drop count text) == 0) as (λ v. (length (drop count text) == 0) ≡ v → v ≡ false) [
      | true ↦ (λ empty.
          let size : length (drop count text) ≡ length text - count = length-drop count text in
          let nothing_left : length (drop count text) ≡ 0 = eqb-true (length (drop count text)) 0 empty in
          let some : 1 ≤ count = some_digits count text value is in
          let last : is_in Digit (get_or text (length text - 1) 0) ≡ true = prefix_len_passes (is_in Digit) text (length text - 1) 0 (omega (arith, size, nothing_left, some)) in
          sym last ∙ (or_parts (get_or text (length text - 1) 0 == 0x3A) (is_in Digit (get_or text (length text - 1) 0)) none).1)
      | false ↦ (λ _. refl)
    ] refl

number_last : (figure : Figure) (s : Seen) → closes s.rest ≡ false → whole_of (option_and_then (fit (SetApart ∷ [])) (taken (Decimal figure) s)) ≡ None
number_last figure s none = go (value_of (take (prefix_len (is_in Digit) s.rest) s.rest)) refl
  where
    go : (o : Option ℕ) → value_of (take (prefix_len (is_in Digit) s.rest) s.rest) ≡ o
        → whole_of (option_and_then (fit (SetApart ∷ [])) (option_map (λ (n : ℕ × ℕ). with_figure figure n.1 (behind n.0 s)) (option_map (λ value. (prefix_len (is_in Digit) s.rest, value)) o))) ≡ None
    go None is = refl
    go (Some value) is =
        let found : Seen = with_figure figure value (behind (prefix_len (is_in Digit) s.rest) s) in
        let apart : Seen = record found { apart = true } in
        ap (λ v. if v then Some apart else None) (ap (λ (r : List ℕ). length r == 0) (figure_rest figure value (behind (prefix_len (is_in Digit) s.rest) s)) ∙ digits_left s.rest value is none)

none_last : (part : Part) (parts : List Part) (s : Seen) → is_last part ≡ true → is_apart parts ≡ true → closes s.rest ≡ false → whole (part ∷ parts) s ≡ None
none_last (Byte byte) (SetApart ∷ []) s last apart none = byte_last byte s.rest s last none
none_last (Byte byte) (part ∷ parts) s last apart none = cc
none_last (Byte byte) [] s last apart none = cc
none_last (Decimal figure) (SetApart ∷ []) s last apart none = number_last figure s none
none_last (Decimal figure) (part ∷ parts) s last apart none = cc
none_last (Decimal figure) [] s last apart none = cc
none_last part parts s last apart none = cc

none_ended_by : (part : Part) (parts : List Part) (s : Seen) (o : Option Seen) → taken part s ≡ o → is_simple part ≡ true → ((t : Seen) → closes t.rest ≡ false → whole parts t ≡ None) → closes s.rest ≡ false → whole_of (option_and_then (fit parts) o) ≡ None
none_ended_by part parts s None is simple later none = refl
none_ended_by part parts s (Some t) is simple later none = later t (taken_closes part s t simple is none)

none_ended : (parts : List Part) (s : Seen) → ended parts ≡ true → closes s.rest ≡ false → whole parts s ≡ None
none_ended [] s is none = cc
none_ended (part ∷ parts) s is none =
    elim (is_last part && is_apart parts) as (λ v. (is_last part && is_apart parts) ≡ v → (v || (is_simple part && ended parts)) ≡ true → whole (part ∷ parts) s ≡ None) [
      | true ↦ (λ both _.
          let two : (is_last part ≡ true) × (is_apart parts ≡ true) = and_parts (is_last part) (is_apart parts) both in
          none_last part parts s two.0 two.1 none)
      | false ↦ (λ _ rest.
          let two : (is_simple part ≡ true) × (ended parts ≡ true) = and_parts (is_simple part) (ended parts) rest in
          none_ended_by part parts s (taken part s) refl two.0 (λ t. none_ended parts t two.1) none)
    ] refl is

-- ---- the rows of the table

none_at : (kind : NameKind) (after : List Part) (s : Seen) (end : ℕ) → ended after ≡ true → closes s.rest ≡ false → own_at kind after s end ≡ None
unfolding own_at
none_at kind after s end is none =
    elim (is_name kind s.rest end) as (λ v. (if v then option_map (λ (found : Seen). let p : Place = record { name = take end s.rest; found = found } in p) (whole after (record s { rest = drop end s.rest })) else None) ≡ None) [
      | true ↦ ap (option_map (λ (found : Seen). let p : Place = record { name = take end s.rest; found = found } in p)) (none_ended after (record s { rest = drop end s.rest }) is (drop_closes end s.rest none))
      | false ↦ refl
    ]

none_named : (kind : NameKind) (after : List Part) (s : Seen) → ended after ≡ true → closes s.rest ≡ false → first_named kind after s ≡ None
unfolding first_named
none_named kind after s is none = all_past (own_at kind after s) 1 (length s.rest) (λ k low high. none_at kind after s k is none)

none_own : (kind : NameKind) (lead after : List Part) (line : List ℕ) (o : Option Seen) → fit lead (before line) ≡ o → list_all is_simple lead ≡ true → ended after ≡ true → closes line ≡ false → option_and_then (first_named kind after) o ≡ None
none_own kind lead after line None fits simple is none = refl
none_own kind lead after line (Some s) fits simple is none = none_named kind after s is (fit_closes lead (before line) s simple fits none)

abbrev closes_row : List Part × NameKind × List Part → Bool
closes_row row = list_all is_simple row.0 && ended row.2

none_first : (rows : List (List Part × NameKind × List Part)) (line : List ℕ) → list_all closes_row rows ≡ true → closes line ≡ false → first_place rows line ≡ None
none_first [] line is none = refl
none_first (row ∷ rows) line is none =
    let two : (closes_row row ≡ true) × (list_all closes_row rows ≡ true) = and_parts (closes_row row) (list_all closes_row rows) is in
    let one : (list_all is_simple row.0 ≡ true) × (ended row.2 ≡ true) = and_parts (list_all is_simple row.0) (ended row.2) two.0 in
    ap (λ o. option_or o (first_place rows line)) (none_own row.1 row.0 row.2 line (fit row.0 (before line)) refl one.0 one.1 none) ∙ none_first rows line two.1 none

places_close : list_all closes_row places ≡ true
unfolding places
places_close = refl

pub none_parted : (line : List ℕ) → closes line ≡ false → parted line ≡ None
none_parted line none = ap (option_map (λ (place : Place). let it : FindingParts = record { place = place; says = meant Plain place.found } in it)) (none_first places line places_close none)
