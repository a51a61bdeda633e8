-- Where there is a place, a digit stands before `:`, `,` or `)`.
use Rattle.std.proofs.Common.{◌≡◌, ℕ, zero, suc, ◌+◌, ◌-◌, ◌==◌, ◌&&◌, ◌||◌, if◌then◌else◌, List, [], ◌∷◌, length, take, drop, Option, Some, None, Bool, true, false, cond, refl, sym, ap, subst, ◌∙◌, arith, eqb-true}
use Rattle.std.specs.List.{slice_index, prefix_len, list_all, range_with_len}
use Rattle.std.specs.Option.{option_map, option_and_then, option_or, unwrap_or}
use Rattle.std.proofs.lemmas.Bool.{and_parts, or_parts}
use Rattle.line_shapes.specs.declared.bytes.Kind.TheVariants.{Digit, Blank, InProgram, InRule}
use Rattle.line_shapes.specs.declared.level.Level.{Level}
use Rattle.line_shapes.specs.declared.level.Severity.{Severity}
use Rattle.line_shapes.specs.declared.name.NameKind.{NameKind}
use Rattle.line_shapes.specs.declared.part.Figure.{Figure}
use Rattle.line_shapes.specs.declared.part.Part.{Part}
use Rattle.line_shapes.specs.declared.part.Part.TheVariants.{Byte, Blanks, AnyBlanks, Decimal, Level as ALevel, Letter, Small, Number, Rule, Cop, Program, Message, SetApart}
use Rattle.line_shapes.specs.Bytes.{is_in, some_run, number_at, capitals_and_digits, cop_len, value_of}
use Rattle.line_shapes.specs.Level.{level_at, letter_severity, small_severity}
use Rattle.line_shapes.specs.Name.{is_name}
use Rattle.line_shapes.specs.Part.{Seen, before, behind, byte_taken, fit, is_program_start, message_taken, past_run, taken, with_code, with_figure, with_letter, with_level}
use Rattle.line_shapes.specs.Place.{Place, afters, ends_figure, ends_number, figure_behind, first_fit, fits_behind, has_figure, in_lead, in_leads, leads, named, place, placed_at}
use Rattle.line_shapes.proofs.PartLemmas.{figure_rest, left, past_taken}
use Rattle.line_shapes.proofs.PlaceLemmas.{all_past}

and_second : (a b : Bool) → a ≡ true → (a && b) ≡ false → b ≡ false
and_second true b is e = e
and_second false b is e = cc

pub one_more : (found ends rest all : Bool) → (found || (ends || rest)) ≡ all → ((found || ends) || rest) ≡ all
one_more true ends rest all e = e
one_more false ends rest all e = e

-- what is left of a text without a figure has none
tail_figure : (x : ℕ) (xs : List ℕ) → figure_behind x xs ≡ false → has_figure xs ≡ false
tail_figure x [] e = refl
tail_figure x (y ∷ ys) e = (or_parts (ends_figure x y) (figure_behind y ys) e).1

pub drop_figure : (n : ℕ) (text : List ℕ) → has_figure text ≡ false → has_figure (drop n text) ≡ false
drop_figure zero text e = e
drop_figure (suc n) [] e = refl
drop_figure (suc n) (x ∷ xs) e = drop_figure n xs (tail_figure x xs e)

-- of what is found
mapped_figure : {A : Type 0} (f : A → Seen) (o : Option A) (t : Seen) → option_map f o ≡ Some t → ((x : A) → has_figure (f x).rest ≡ false) → has_figure t.rest ≡ false
mapped_figure f None t e none = cc
mapped_figure f (Some x) t e none = sym (ap (λ o. has_figure (left o)) e) ∙ none x

byte_figure : (byte : ℕ) (text : List ℕ) (s t : Seen) → byte_taken byte text s ≡ Some t → has_figure text ≡ false → has_figure t.rest ≡ false
byte_figure byte [] s t e none = cc
byte_figure byte (x ∷ xs) s t e none =
    elim (x == byte) as (λ v. (if v then Some (record s { rest = xs }) else None) ≡ Some t → has_figure t.rest ≡ false) [
      | true ↦ (λ e. sym (ap (λ o. has_figure (left o)) e) ∙ tail_figure x xs none)
      | false ↦ (λ e. cc)
    ] e

program_figure : (test : Bool) (s t : Seen) (n : ℕ) → (if test then Some (behind n s) else None) ≡ Some t → has_figure (drop n s.rest) ≡ false → has_figure t.rest ≡ false
program_figure true s t n e none = sym (ap (λ o. has_figure (left o)) e) ∙ none
program_figure false s t n e none = cc

message_figure : (text : List ℕ) (s t : Seen) → message_taken text s ≡ Some t → has_figure t.rest ≡ false
message_figure [] s t e = cc
message_figure (x ∷ xs) s t e =
    elim (is_in Blank x) as (λ v. (if v then None else Some (record s { rest = []; message = Some (x ∷ xs) })) ≡ Some t → has_figure t.rest ≡ false) [
      | true ↦ (λ e. cc)
      | false ↦ (λ e. sym (ap (λ o. has_figure (left o)) e))
    ] e

taken_figure : (part : Part) (s t : Seen) → taken part s ≡ Some t → has_figure s.rest ≡ false → has_figure t.rest ≡ false
taken_figure (Byte byte) s t e none = byte_figure byte s.rest s t e none
taken_figure Blanks s t e none = mapped_figure (λ (count : ℕ). behind count s) (some_run (prefix_len (is_in Blank) s.rest)) t e (λ n. drop_figure n s.rest none)
taken_figure AnyBlanks s t e none = sym (ap (λ o. has_figure (left o)) e) ∙ drop_figure (prefix_len (is_in Blank) s.rest) s.rest none
taken_figure (Decimal figure) s t e none =
    mapped_figure (λ (it : ℕ × ℕ). with_figure figure it.1 (behind it.0 s)) (number_at s.rest) t e
    (λ it. ap has_figure (figure_rest figure it.1 (behind it.0 s)) ∙ drop_figure it.0 s.rest none)
taken_figure ALevel s t e none = mapped_figure (λ (level : Level). with_level level s) (level_at s.rest) t e (λ level. drop_figure level.length s.rest none)
taken_figure Letter s t e none = mapped_figure (λ (severity : Severity). with_letter severity s) (letter_severity (slice_index s.rest 0)) t e (λ severity. drop_figure 1 s.rest none)
taken_figure Small s t e none = mapped_figure (λ (severity : Severity). with_letter severity s) (small_severity (slice_index s.rest 0)) t e (λ severity. drop_figure 1 s.rest none)
taken_figure Number s t e none = mapped_figure (λ (count : ℕ). with_code true count s) (capitals_and_digits s.rest) t e (λ n. drop_figure n s.rest none)
taken_figure Rule s t e none = mapped_figure (λ (count : ℕ). with_code false count s) (some_run (prefix_len (is_in InRule) s.rest)) t e (λ n. drop_figure n s.rest none)
taken_figure Cop s t e none = mapped_figure (λ (count : ℕ). with_code false count s) (cop_len s.rest) t e (λ n. drop_figure n s.rest none)
taken_figure Program s t e none = program_figure (is_program_start (slice_index s.rest 0)) s t (prefix_len (is_in InProgram) s.rest) e (drop_figure (prefix_len (is_in InProgram) s.rest) s.rest none)
taken_figure Message s t e none = message_figure s.rest s t e
taken_figure SetApart s t e none = sym (ap (λ o. has_figure (left o)) e) ∙ none

fit_figure_by : (part : Part) (parts : List Part) (s t : Seen) (o : Option Seen) → taken part s ≡ o → ((u : Seen) → fit parts u ≡ Some t → has_figure u.rest ≡ false → has_figure t.rest ≡ false) → option_and_then (fit parts) o ≡ Some t → has_figure s.rest ≡ false
    → has_figure t.rest ≡ false
fit_figure_by part parts s t None is later e none = cc
fit_figure_by part parts s t (Some u) is later e none = later u e (taken_figure part s u is none)

pub fit_figure : (parts : List Part) (s t : Seen) → fit parts s ≡ Some t → has_figure s.rest ≡ false → has_figure t.rest ≡ false
fit_figure [] s t e none = sym (ap (λ o. has_figure (left o)) e) ∙ none
fit_figure (part ∷ parts) s t e none = fit_figure_by part parts s t (taken part s) refl (λ u. fit_figure parts u t) e none

-- a number that ends before such a byte
abbrev begins_with_byte : ℕ → List ℕ → Bool
begins_with_byte byte [] = false
begins_with_byte byte (x ∷ xs) = x == byte

not_ended : (byte x : ℕ) (xs : List ℕ) → is_in Digit x ≡ true → ends_number byte ≡ true → figure_behind x xs ≡ false → begins_with_byte byte (drop (prefix_len (is_in Digit) xs) xs) ≡ false
not_ended byte x [] digit ends none = refl
not_ended byte x (y ∷ ys) digit ends none =
    let later : figure_behind y ys ≡ false = (or_parts (ends_figure x y) (figure_behind y ys) none).1 in
    let other : ends_number y ≡ false = and_second (is_in Digit x) (ends_number y) digit (or_parts (ends_figure x y) (figure_behind y ys) none).0 in
    elim (is_in Digit y) as (λ v. is_in Digit y ≡ v → begins_with_byte byte (drop (cond v (1 + prefix_len (is_in Digit) ys) 0) (y ∷ ys)) ≡ false) [
      | true ↦ (λ more.
          let longer : 1 + prefix_len (is_in Digit) ys ≡ suc (prefix_len (is_in Digit) ys) = omega arith in
          ap (λ n. begins_with_byte byte (drop n (y ∷ ys))) longer ∙ not_ended byte y ys more ends later)
      | false ↦ (λ _. elim (y == byte) as (λ v. (y == byte) ≡ v → v ≡ false) [
        | true ↦ (λ same. sym (subst (λ b. ends_number b ≡ true) (sym (eqb-true y byte same)) ends) ∙ other)
        | false ↦ (λ _. refl)
      ] refl)
    ] refl

run_ended : (byte : ℕ) (text rest : List ℕ) → ends_number byte ≡ true → has_figure text ≡ false → past_run Digit (is_in Digit (slice_index text 0)) text ≡ Some rest → begins_with_byte byte rest ≡ false
run_ended byte [] rest ends none e = cc
run_ended byte (x ∷ xs) rest ends none e =
    elim (is_in Digit x) as (λ v. is_in Digit x ≡ v → (if v then Some (drop (cond v (1 + prefix_len (is_in Digit) xs) 0) (x ∷ xs)) else None) ≡ Some rest → begins_with_byte byte rest ≡ false) [
      | true ↦ (λ digit e.
          let longer : 1 + prefix_len (is_in Digit) xs ≡ suc (prefix_len (is_in Digit) xs) = omega arith in
          sym (ap (λ o. begins_with_byte byte (unwrap_or o [])) e) ∙ (ap (λ n. begins_with_byte byte (drop n (x ∷ xs))) longer ∙ not_ended byte x xs digit ends none))
      | false ↦ (λ _ e. cc)
    ] refl e

no_byte_there : (byte : ℕ) (text : List ℕ) (s : Seen) → begins_with_byte byte text ≡ false → byte_taken byte text s ≡ None
no_byte_there byte [] s not_there = refl
no_byte_there byte (x ∷ xs) s not_there = ap (λ v. if v then Some (record s { rest = xs }) else None) not_there

-- a shape has a number that ends before such a byte
abbrev is_decimal : Part → Bool
is_decimal (Decimal figure) = true
is_decimal _ = false

abbrev ends_there : List Part → Bool
ends_there (Byte byte ∷ parts) = ends_number byte
ends_there _ = false

abbrev pub needs_figure : List Part → Bool
needs_figure [] = false
needs_figure (part ∷ parts) = (is_decimal part && ends_there parts) || needs_figure parts

none_behind : (part : Part) (parts : List Part) (s t : Seen) → is_decimal part ≡ true → ends_there parts ≡ true → taken part s ≡ Some t → has_figure s.rest ≡ false → fit parts t ≡ None
none_behind (Decimal figure) (Byte byte ∷ parts) s t is ends e none =
    ap (option_and_then (fit parts)) (no_byte_there byte t.rest t (run_ended byte s.rest t.rest ends none (past_taken (Decimal figure) s t refl e)))
none_behind (Decimal figure) (part ∷ parts) s t is ends e none = cc
none_behind (Decimal figure) [] s t is ends e none = cc
none_behind part parts s t is ends e none = cc

none_fit_by : (part : Part) (parts : List Part) (s : Seen) (o : Option Seen) → taken part s ≡ o → ((t : Seen) → needs_figure parts ≡ true → has_figure t.rest ≡ false → fit parts t ≡ None) → needs_figure (part ∷ parts) ≡ true → has_figure s.rest ≡ false
    → option_and_then (fit parts) o ≡ None
none_fit_by part parts s None is later needs none = refl
none_fit_by part parts s (Some t) is later needs none =
    elim (is_decimal part && ends_there parts) as (λ v. (is_decimal part && ends_there parts) ≡ v → (v || needs_figure parts) ≡ true → fit parts t ≡ None) [
      | true ↦ (λ both _.
          let two : (is_decimal part ≡ true) × (ends_there parts ≡ true) = and_parts (is_decimal part) (ends_there parts) both in
          none_behind part parts s t two.0 two.1 is none)
      | false ↦ (λ _ more. later t more (taken_figure part s t is none))
    ] refl needs

pub none_fit : (parts : List Part) (s : Seen) → needs_figure parts ≡ true → has_figure s.rest ≡ false → fit parts s ≡ None
none_fit [] s needs none = cc
none_fit (part ∷ parts) s needs none = none_fit_by part parts s (taken part s) refl (none_fit parts) needs none

no_first_fit : (shapes : List (List Part)) (s : Seen) → list_all needs_figure shapes ≡ true → has_figure s.rest ≡ false → first_fit shapes s ≡ None
no_first_fit [] s needs none = refl
no_first_fit (shape ∷ shapes) s needs none =
    let parts : (needs_figure shape ≡ true) × (list_all needs_figure shapes ≡ true) = and_parts (needs_figure shape) (list_all needs_figure shapes) needs in
    ap (λ found. option_or found (first_fit shapes s)) (none_fit shape s parts.0 none) ∙ no_first_fit shapes s parts.1 none

-- each row of the table has one
afters_need : list_all needs_figure afters ≡ true
unfolding afters
afters_need = refl

none_placed : (kind : NameKind) (s : Seen) (end : ℕ) → has_figure s.rest ≡ false → placed_at kind s end ≡ None
unfolding placed_at
none_placed kind s end none =
    elim (is_name kind s.rest end) as (λ v. (if v then option_map (named s end) (fits_behind s end) else None) ≡ None) [
      | true ↦ ap (option_map (named s end)) (no_first_fit afters (record s { rest = drop end s.rest }) afters_need (drop_figure end s.rest none))
      | false ↦ refl
    ]

none_in_lead : (kind : NameKind) (s : Seen) → has_figure s.rest ≡ false → in_lead kind s ≡ None
unfolding in_lead
none_in_lead kind s none = all_past (placed_at kind s) 1 (length s.rest) (λ k low high. none_placed kind s k none)

none_behind_lead : (kind : NameKind) (parts : List Part) (line : List ℕ) (o : Option Seen) → fit parts (before line) ≡ o → has_figure line ≡ false → option_and_then (in_lead kind) o ≡ None
none_behind_lead kind parts line None is none = refl
none_behind_lead kind parts line (Some s) is none = none_in_lead kind s (fit_figure parts (before line) s is none)

none_in_leads : (all : List (List Part × NameKind)) (line : List ℕ) → has_figure line ≡ false → in_leads all line ≡ None
none_in_leads [] line none = refl
none_in_leads (lead ∷ more) line none =
    ap (λ found. option_or found (in_leads more line)) (none_behind_lead lead.1 lead.0 line (fit lead.0 (before line)) refl none) ∙ none_in_leads more line none

-- where no digit stands before `:`, `,` or `)`, there is no place
pub no_place_there : (line : List ℕ) → has_figure line ≡ false → place line ≡ None
no_place_there line none = none_in_leads leads line none
