-- The lines of plain problems, one after another, are read as these problems.
use Rattle.std.proofs.Common.{◌≡◌, ℕ, zero, suc, ◌+◌, ◌-◌, ◌^◌, ◌<◌, ◌≤◌, ◌==◌, ◌&&◌, ◌||◌, not, if◌then◌else◌, Bool, true, false, List, [], ◌∷◌, ◌++◌, length, take, drop, map, Option, Some, None, decimal, nat_le, refl, sym, ap, ap₂, ◌∙◌, subst, arith, append_assoc, eqb-true}
use Rattle.std.specs.List.{All, flat_map, list_all, prefix_len, slice_index, slice_split}
use Rattle.std.specs.Option.{is_some, option_and_then, option_map, unwrap_or}
use Rattle.std.specs.Str.Parse.{AllDigits}
use Rattle.std.proofs.lemmas.Bool.{and_from, and_parts, and_right, ne_eqb, or_parts}
use Rattle.std.proofs.lemmas.Fmt.{decimal_is_IsNumeral}
use Rattle.std.proofs.lemmas.List.{length-append}
use Rattle.std.proofs.lemmas.List.Splits.{slice_split_at}
use Rattle.std.proofs.lemmas.Str.Parse.{digit_from_value}
use Rattle.std.proofs.Math.Seq.{take-append-add}
use Rattle.line_shapes.specs.declared.bytes.Kind.TheVariants.{Angled, Blank}
use Rattle.line_shapes.specs.declared.name.NameKind.TheVariants.{Any}
use Rattle.line_shapes.specs.declared.part.Part.{Part}
use Rattle.line_shapes.specs.declared.part.Part.TheVariants.{AnyBlanks, Blanks, Byte}
use Rattle.line_shapes.specs.declared.tables.TheConstants.{UNDER}
use Rattle.line_shapes.specs.Bytes.{is_in}
use Rattle.line_shapes.specs.Name.{angle_behind, begins_name, ends_name, first_fault, is_fault, is_file, is_name, is_plain as is_plain_text, stops}
use Rattle.line_shapes.specs.Part.{before, may_begin, past_run}
use Rattle.line_shapes.specs.Place.{Place, place}
use Rattle.line_shapes.specs.Shape.{ShapeParts}
use Rattle.line_shapes.proofs.PartLemmas.{no_run}
use Rattle.oxc_protocol.specs.declared.protocol.Severity.{Severity as OwnSeverity}
use Rattle.oxc_protocol.specs.declared.protocol.Severity.TheVariants.{Error as AnError, Warning as AWarning, Advice as AnAdvice}
use Rattle.oxc_protocol.specs.declared.reporter.InfoPosition.{InfoPosition}
use Rattle.oxc_protocol.specs.Info.{InfoParts}
use Rattle.problem_lines.specs.Line.{problem_line, severity_name}
use Rattle.tool_lines.specs.declared.lines.Sort.TheVariants.{Inline}
use Rattle.tool_lines.specs.Marks.{stands_apart}
use Rattle.tool_lines.specs.Lines.{ArePieces, BegunParts, PieceParts, behind, arrows, first_arrow, head, is_kept, is_placing, leads_to_note, lines_of, may_trail, name_behind, other_arrow, piece, trail_len, uncoloned, without_cr}
use Rattle.tool_lines.proofs.PlainLemmas.{begins_nothing}
use Rattle.finding_laws.specs.Problems.Plain.{is_own, is_plain, is_plain_code}
use Rattle.finding_laws.specs.Problems.Read.{AreReadBack, finding_of, last_piece, piece_back}
use Rattle.finding_laws.proofs.SharedLemmas.{all_append}
use Rattle.finding_laws.proofs.ProblemLemmas.NameBack.{fault_none, name_some, not_this}
use Rattle.finding_laws.proofs.ProblemLemmas.LineBack.{IsNameable, severity_first}
use Rattle.finding_laws.proofs.ProblemLemmas.PlaceBack.{first_of, line_of, numbers_text, place_back, places_found}
use Rattle.finding_laws.proofs.ProblemLemmas.SaidBack.{IsSayable, coded_text, uncoded_text}
use Rattle.finding_laws.proofs.ProblemLemmas.TextBack.{IsCode, IsPlainProblem, name_parts, own_parts, plain_code, plain_problem, problem_of, read_back, text_coded, text_uncoded}

-- ---- a name isn't an arrow, and begins with no blank

-- a text that begins with no angle is a name by the other test
by_text : (x : ℕ) (xs : List ℕ) → (x == 0x3C) ≡ false → is_name Any (x ∷ xs) (length (x ∷ xs)) ≡ is_plain_text Any (x ∷ xs) (length (x ∷ xs))
by_text x xs other =
    let n : ℕ = length (x ∷ xs) in
    ap (λ v. (nat_le 1 n && ((if v then angle_behind (prefix_len (is_in Angled) xs) xs else 0) == n)) || is_plain_text Any (x ∷ xs) n) other
    ∙ ap (λ v. v || is_plain_text Any (x ∷ xs) n) (and_right (nat_le 1 n) (0 == n) (ne_eqb 0 n (λ e. omega (arith, e))))

blank_no_name : (x : ℕ) (xs : List ℕ) → is_in Blank x ≡ true → is_name Any (x ∷ xs) (length (x ∷ xs)) ≡ false
blank_no_name x xs blank =
    let n : ℕ = length (x ∷ xs) in
    by_text x xs (not_this (is_in Blank) x 0x3C blank refl)
    ∙ ap (λ v. (not v && not (false && (x == 0x5B))) && ends_name (take n (x ∷ xs)) && nat_le n (first_fault Any (x ∷ xs))) blank

no_blank_first : (name : List ℕ) → is_name Any name (length name) ≡ true → is_in Blank (slice_index name 0) ≡ false
no_blank_first [] is = refl
no_blank_first (x ∷ xs) is =
    elim (is_in Blank x) as (λ v. is_in Blank x ≡ v → v ≡ false) [
      | true ↦ (λ blank. sym is ∙ blank_no_name x xs blank)
      | false ↦ (λ _. refl)
    ] refl

third_not : (x y z : ℕ) (rest : List ℕ) → (x == 0x2D) ≡ true → is_name Any (x ∷ y ∷ z ∷ rest) (length (x ∷ y ∷ z ∷ rest)) ≡ true → (z == 0x3E) ≡ false
third_not x y z rest dash is =
    let name : List ℕ = x ∷ y ∷ z ∷ rest in
    let other : (x == 0x3C) ≡ false = ap (λ b. b == 0x3C) (eqb-true x 0x2D dash) in
    let plain : is_plain_text Any name (length name) ≡ true = sym (by_text x (y ∷ z ∷ rest) other) ∙ is in
    let low : nat_le (length name) (first_fault Any name) ≡ true = (and_parts (begins_name Any name && ends_name (take (length name) name)) (nat_le (length name) (first_fault Any name)) plain).1 in
    let none : is_fault false (is_file name) name 2 ≡ false = fault_none name 2 low (omega arith) in
    let goes_on : stops false z y ≡ false = (or_parts (stops false z y) _ none).0 in
    elim (z == 0x3E) as (λ v. (z == 0x3E) ≡ v → v ≡ false) [
      | true ↦ (λ same. let stopped : stops false 0x3E y ≡ false = subst (λ b. stops false b y ≡ false) (eqb-true z 0x3E same) goes_on in cc)
      | false ↦ (λ _. refl)
    ] refl

abbrev begins_by : Bool → List Part → List ℕ → Bool
begins_by v parts xs = unwrap_or (option_map (may_begin parts) (if v then Some xs else None)) false

no_arrow : (name tail : List ℕ) (parts : List Part) → is_name Any name (length name) ≡ true → may_begin (Byte 0x2D ∷ (Byte 0x2D ∷ (Byte 0x3E ∷ parts))) (name ++ 0x3A ∷ tail) ≡ false
no_arrow [] tail parts is = refl
no_arrow (x ∷ []) tail parts is = elim (x == 0x2D) as (λ v. begins_by v (Byte 0x2D ∷ (Byte 0x3E ∷ parts)) (0x3A ∷ tail) ≡ false) [ true ↦ refl | false ↦ refl ]
no_arrow (x ∷ (y ∷ [])) tail parts is =
    elim (x == 0x2D) as (λ v. begins_by v (Byte 0x2D ∷ (Byte 0x3E ∷ parts)) (y ∷ 0x3A ∷ tail) ≡ false) [
      | true ↦ (elim (y == 0x2D) as (λ v. begins_by v (Byte 0x3E ∷ parts) (0x3A ∷ tail) ≡ false) [ true ↦ refl | false ↦ refl ])
      | false ↦ refl
    ]
no_arrow (x ∷ (y ∷ (z ∷ rest))) tail parts is =
    elim (x == 0x2D) as (λ v. (x == 0x2D) ≡ v → begins_by v (Byte 0x2D ∷ (Byte 0x3E ∷ parts)) (y ∷ z ∷ (rest ++ 0x3A ∷ tail)) ≡ false) [
      | true ↦ (λ dash. elim (y == 0x2D) as (λ v. begins_by v (Byte 0x3E ∷ parts) (z ∷ (rest ++ 0x3A ∷ tail)) ≡ false) [
        | true ↦ ap (λ v. begins_by v parts (rest ++ 0x3A ∷ tail)) (third_not x y z rest dash is)
        | false ↦ refl
      ])
      | false ↦ (λ _. refl)
    ] refl

-- a text without a colon at its end
taken_more : (name tail : List ℕ) → 1 ≤ length tail → take (length (name ++ 0x3A ∷ tail) - 1) (name ++ 0x3A ∷ tail) ≡ name ++ 0x3A ∷ take (length tail - 1) tail
taken_more name tail some =
    let long : length (name ++ 0x3A ∷ tail) - 1 ≡ length name + suc (length tail - 1) = omega (arith, length-append name (0x3A ∷ tail)) in
    ap (λ n. take n (name ++ 0x3A ∷ tail)) long ∙ take-append-add name (0x3A ∷ tail) (suc (length tail - 1))

no_arrow_behind : (name tail : List ℕ) → 1 ≤ length tail → is_name Any name (length name) ≡ true → may_begin (Byte 0x2D ∷ (Byte 0x2D ∷ (Byte 0x3E ∷ (Blanks ∷ [])))) (uncoloned (name ++ 0x3A ∷ tail)) ≡ false
no_arrow_behind name tail some is =
    let line : List ℕ = name ++ 0x3A ∷ tail in
    let parts : List Part = Byte 0x2D ∷ (Byte 0x2D ∷ (Byte 0x3E ∷ (Blanks ∷ []))) in
    elim (slice_index line (length line - 1) == 0x3A) as (λ v. may_begin parts (unwrap_or (if v then Some (take (length line - 1) line) else None) line) ≡ false) [
      | true ↦ ap (may_begin parts) (taken_more name tail some) ∙ no_arrow name (take (length tail - 1) tail) (Blanks ∷ []) is
      | false ↦ no_arrow name tail (Blanks ∷ []) is
    ]

uncoloned_first : (name tail : List ℕ) → 1 ≤ length tail → 1 ≤ length name → slice_index (uncoloned (name ++ 0x3A ∷ tail)) 0 ≡ slice_index name 0
uncoloned_first name tail some named =
    let line : List ℕ = name ++ 0x3A ∷ tail in
    elim (slice_index line (length line - 1) == 0x3A) as (λ v. slice_index (unwrap_or (if v then Some (take (length line - 1) line) else None) line) 0 ≡ slice_index name 0) [
      | true ↦ ap (λ text. slice_index text 0) (taken_more name tail some) ∙ first_of name (0x3A ∷ take (length tail - 1) tail) named
      | false ↦ first_of name (0x3A ∷ tail) named
    ]

behind_no_blanks : (parts : List Part) (text : List ℕ) → is_in Blank (slice_index text 0) ≡ false → may_begin (AnyBlanks ∷ parts) text ≡ may_begin parts text
behind_no_blanks parts text none = ap (λ n. may_begin parts (drop n text)) (no_run Blank text none)

none_then : (p : Place) (o : Option Place) → is_some (option_and_then (λ (q : Place). if is_some (Some p) then None else Some q) o) ≡ false
none_then p None = refl
none_then p (Some q) = refl

-- a line that has a location before its message is no arrow
no_other_arrow : (line : List ℕ) (p : Place) → place line ≡ Some p → is_some (other_arrow line) ≡ false
no_other_arrow line p there = ap (λ (here : Option Place). is_some (option_and_then (λ (q : Place). if is_some here then None else Some q) (first_arrow arrows line))) there ∙ none_then p (first_arrow arrows line)

pub not_placing : (name tail : List ℕ) (p : Place) → 1 ≤ length tail → 1 ≤ length name → is_name Any name (length name) ≡ true → place (name ++ 0x3A ∷ tail) ≡ Some p → is_placing (Some (name ++ 0x3A ∷ tail)) ≡ false
not_placing name tail p some named is there =
    let line : List ℕ = name ++ 0x3A ∷ tail in
    let first : is_in Blank (slice_index name 0) ≡ false = no_blank_first name is in
    let above : is_in Blank (slice_index (uncoloned line) 0) ≡ false = ap (is_in Blank) (uncoloned_first name tail some named) ∙ first in
    let here : is_in Blank (slice_index line 0) ≡ false = ap (is_in Blank) (first_of name (0x3A ∷ tail) named) ∙ first in
    ap₂ (λ a b. a || b)
    (ap₂ (λ a b. a || b) (behind_no_blanks (Byte 0x2D ∷ (Byte 0x2D ∷ (Byte 0x3E ∷ (Blanks ∷ [])))) (uncoloned line) above ∙ no_arrow_behind name tail some is)
    (ap (λ v. unwrap_or (option_map (may_begin (drop 1 UNDER)) (past_run Blank v line)) false) here))
    (no_other_arrow line p there)

-- ---- no byte of a line ends it

own_from : (a b c : Bool) → a ≡ false → b ≡ false → c ≡ false → not (a || b || c) ≡ true
own_from false false false p q r = refl
own_from true b c p q r = cc
own_from false true c p q r = cc
own_from false false true p q r = cc

own_digit : (d : ℕ) → 0x30 ≤ d → d ≤ 0x39 → is_own d ≡ true
own_digit d low high =
    own_from (d == 0x5C) (d == 0x0A) (d == 0x0D) (ne_eqb d 0x5C (λ e. omega (arith, e, high))) (ne_eqb d 0x0A (λ e. omega (arith, e, low))) (ne_eqb d 0x0D (λ e. omega (arith, e, low)))

own_digits : (ds : List ℕ) → AllDigits 10 ds → list_all is_own ds ≡ true
own_digits [] all = refl
own_digits (d ∷ ds) (first, others) = let range = digit_from_value d first in and_from (is_own d) (list_all is_own ds) (own_digit d range.0 range.1) (own_digits ds others)

own_decimal : (n : ℕ) → n < 2 ^ 32 → list_all is_own (decimal n) ≡ true
own_decimal n low = own_digits (decimal n) (decimal_is_IsNumeral n (omega (arith, low))).0.1

pub own_line : (name said : List ℕ) (l c m d : ℕ) → list_all is_own name ≡ true → list_all is_own said ≡ true → l < 2 ^ 32 → c < 2 ^ 32 → m < 2 ^ 32 → d < 2 ^ 32 → list_all is_own (line_of name (numbers_text l c m d said)) ≡ true
own_line name said l c m d own said_own low_l low_c low_m low_d =
    all_append is_own name (0x3A ∷ numbers_text l c m d said) own
    (all_append is_own (decimal l) (0x3A ∷ (decimal c ++ 0x3A ∷ (decimal m ++ 0x3A ∷ (decimal d ++ 0x3A ∷ 0x20 ∷ said)))) (own_decimal l low_l)
    (all_append is_own (decimal c) (0x3A ∷ (decimal m ++ 0x3A ∷ (decimal d ++ 0x3A ∷ 0x20 ∷ said))) (own_decimal c low_c)
    (all_append is_own (decimal m) (0x3A ∷ (decimal d ++ 0x3A ∷ 0x20 ∷ said)) (own_decimal m low_m) (all_append is_own (decimal d) (0x3A ∷ 0x20 ∷ said) (own_decimal d low_d) said_own))))

own_severity : (severity : OwnSeverity) (rest : List ℕ) → list_all is_own rest ≡ true → list_all is_own (severity_name severity ++ rest) ≡ true
own_severity AnError rest own = own
own_severity AWarning rest own = own
own_severity AnAdvice rest own = own

pub own_uncoded : (severity : OwnSeverity) (message : List ℕ) → list_all is_own message ≡ true → list_all is_own (uncoded_text severity message) ≡ true
own_uncoded severity message own = own_severity severity (0x3A ∷ 0x20 ∷ message) own

pub own_coded : (severity : OwnSeverity) (code message : List ℕ) → list_all is_own code ≡ true → list_all is_own message ≡ true → list_all is_own (coded_text severity code message) ≡ true
own_coded severity code message code_own own = own_severity severity (0x5B ∷ (code ++ 0x5D ∷ (0x3A ∷ (0x20 ∷ message)))) (all_append is_own code (0x5D ∷ (0x3A ∷ (0x20 ∷ message))) code_own own)

no_lf_byte : (x : ℕ) → is_own x ≡ true → (x == 0x0A) ≡ false
no_lf_byte x own = (own_parts x own).1.0

no_cr_byte : (x : ℕ) → is_own x ≡ true → (x == 0x0D) ≡ false
no_cr_byte x own = (own_parts x own).1.1

no_cr_at : (text : List ℕ) (k : ℕ) → list_all is_own text ≡ true → (slice_index text k == 0x0D) ≡ false
no_cr_at [] zero own = refl
no_cr_at [] (suc k) own = refl
no_cr_at (x ∷ xs) zero own = no_cr_byte x (and_parts (is_own x) (list_all is_own xs) own).0
no_cr_at (x ∷ xs) (suc k) own = no_cr_at xs k (and_parts (is_own x) (list_all is_own xs) own).1

no_lf : (text : List ℕ) → list_all is_own text ≡ true → All (λ x. (x == 0x0A) ≡ false) text
no_lf [] own k d low = absurd (omega arith)
no_lf (x ∷ xs) own zero d low = no_lf_byte x (and_parts (is_own x) (list_all is_own xs) own).0
no_lf (x ∷ xs) own (suc k) d low = no_lf xs (and_parts (is_own x) (list_all is_own xs) own).1 k d (omega arith)

same_without_cr : (line : List ℕ) → list_all is_own line ≡ true → without_cr line ≡ line
same_without_cr line own = ap (λ v. unwrap_or (if v then Some (take (length line - 1) line) else None) line) (no_cr_at line (length line - 1) own)

one_line : (line rest : List ℕ) → list_all is_own line ≡ true → lines_of (line ++ 0x0A ∷ rest) ≡ line ∷ lines_of rest
unfolding lines_of
one_line line rest own =
    ap (map without_cr) (slice_split_at (λ byte. byte == 0x0A) line 0x0A rest (no_lf line own) refl) ∙ ap (λ l. l ∷ map without_cr (slice_split (λ byte. byte == 0x0A) rest)) (same_without_cr line own)

-- ---- the pieces

abbrev ArePlain : List InfoParts → Type 0
ArePlain problems = list_all is_plain problems ≡ true

pub record IsLineOf (p : InfoParts) (line : List ℕ) : Type 0 where
  pub same : problem_line p ≡ line ++ 0x0A ∷ []
  pub own : list_all is_own line ≡ true
  pub away : is_placing (Some line) ≡ false

next_lines : (p : InfoParts) (line : List ℕ) (more : List InfoParts) → IsLineOf p line → lines_of (flat_map problem_line (p ∷ more)) ≡ line ∷ lines_of (flat_map problem_line more)
next_lines p line more is =
    ap (λ text. lines_of (text ++ flat_map problem_line more)) is.same ∙ (ap lines_of (append_assoc line (0x0A ∷ []) (flat_map problem_line more)) ∙ one_line line (flat_map problem_line more) is.own)

some_numbers : (l c m d : ℕ) (said : List ℕ) → 1 ≤ length (numbers_text l c m d said)
some_numbers l c m d said = omega (arith, length-append (decimal l) (0x3A ∷ (decimal c ++ 0x3A ∷ (decimal m ++ 0x3A ∷ (decimal d ++ 0x3A ∷ 0x20 ∷ said)))))

-- the location in a problem's line
abbrev placed_problem : List ℕ → List ℕ → InfoPosition → InfoPosition → Place
placed_problem name said start end = record { name = name; found = places_found start.line start.column end.line end.column (before said) }

problem_placed : (name said : List ℕ) (start end : InfoPosition) → IsNameable name → (start.line < 2 ^ 32) × (start.column < 2 ^ 32) → (end.line < 2 ^ 32) × (end.column < 2 ^ 32) → is_in Blank (slice_index said 0) ≡ false
    → place (line_of name (numbers_text start.line start.column end.line end.column said)) ≡ Some (placed_problem name said start end)
problem_placed name said start end named low high none =
    place_back name start.line start.column end.line end.column said named.no_colon named.is named.no_bracket low.0 low.1 high.0 high.1 none

line_by : (start end : InfoPosition) (name message : List ℕ) (severity : OwnSeverity) (rule : Option (List ℕ))
    → name_parts name → (start.line < 2 ^ 32) × (start.column < 2 ^ 32) → (end.line < 2 ^ 32) × (end.column < 2 ^ 32) → IsSayable message × (list_all is_own message ≡ true) → is_plain_code rule message ≡ true
    → (line : List ℕ) × IsLineOf (problem_of start end name message severity rule) line
line_by start end name message severity None named low high says plain =
    let said : List ℕ = uncoded_text severity message in
    let tail : List ℕ = numbers_text start.line start.column end.line end.column said in (
      line_of name tail,
      record {
        same = text_uncoded start end name message severity named.1 named.0.no_colon says.1;
        own = own_line name said start.line start.column end.line end.column named.1 (own_uncoded severity message says.1) low.0 low.1 high.0 high.1;
        away = not_placing name tail (placed_problem name said start end) (some_numbers start.line start.column end.line end.column said) (name_some name named.0.is) named.0.is (problem_placed name said start end named.0 low high (severity_first severity (0x3A ∷ 0x20 ∷ message)));
      },
    )
line_by start end name message severity (Some code) named low high says plain =
    let of : IsCode code = plain_code code message plain in
    let said : List ℕ = coded_text severity code message in
    let tail : List ℕ = numbers_text start.line start.column end.line end.column said in (
      line_of name tail,
      record {
        same = text_coded start end name code message severity named.1 named.0.no_colon says.1 of.own of.in_rule;
        own = own_line name said start.line start.column end.line end.column named.1 (own_coded severity code message of.own says.1) low.0 low.1 high.0 high.1;
        away = not_placing name tail (placed_problem name said start end) (some_numbers start.line start.column end.line end.column said) (name_some name named.0.is) named.0.is (problem_placed name said start end named.0 low high (severity_first severity (0x5B ∷ (code ++ 0x5D ∷ (0x3A ∷ (0x20 ∷ message))))));
      },
    )

line_for : (p : InfoParts) → is_plain p ≡ true → (line : List ℕ) × IsLineOf p line
line_for p plain =
    let is : IsPlainProblem p = plain_problem p plain in
    line_by p.start p.end p.filename p.message p.severity p.rule_id is.named is.low is.high is.says is.code

no_lines : lines_of [] ≡ [] ∷ []
unfolding lines_of
no_lines = refl

no_trail : (may : Bool) (n : ℕ) → (if may && false then n else 0) ≡ 0
no_trail true n = refl
no_trail false n = refl

abbrev begun_back : InfoParts → BegunParts
begun_back p = record { sort = Inline; finding = Some (finding_of p) }

-- what follows a problem's line is no place of it, and belongs to it in no other way
abbrev StandsApart : List (List ℕ) → Type 0
StandsApart lines = (is_placing (head lines) ≡ false) × (trail_len [] false lines ≡ 0)

apart_front : (p : InfoParts) (line : List ℕ) (lines : List (List ℕ)) → is_plain p ≡ true → IsLineOf p line → StandsApart lines → StandsApart (line ∷ lines)
apart_front p line lines plain is later = (
  is.away,
  ap (λ (b : BegunParts). if (may_trail line (head lines) || leads_to_note [] line (head lines) || (false && stands_apart line (head lines))) && is_kept b.sort then 1 + trail_len [] false lines else 0) (read_back p plain line (head lines) is.same later.0)
      ∙ no_trail (may_trail line (head lines) || leads_to_note [] line (head lines) || (false && stands_apart line (head lines))) (1 + trail_len [] false lines),
)

apart_lines : (problems : List InfoParts) → ArePlain problems → StandsApart (lines_of (flat_map problem_line problems))
unfolding arrows
apart_lines [] plain = (ap (λ lines. is_placing (head lines)) no_lines, ap (trail_len [] false) no_lines)
apart_lines (p ∷ more) plain =
    let parts : (is_plain p ≡ true) × (list_all is_plain more ≡ true) = and_parts (is_plain p) (list_all is_plain more) plain in
    let (line, is) = line_for p parts.0 in
    subst StandsApart (sym (next_lines p line more is)) (apart_front p line (lines_of (flat_map problem_line more)) parts.0 is (apart_lines more parts.1))

one_piece : (p : InfoParts) (line : List ℕ) (lines : List (List ℕ)) → is_plain p ≡ true → IsLineOf p line → StandsApart lines → piece [] None (line ∷ lines) ≡ piece_back p
one_piece p line lines plain is later =
    ap (λ (b : BegunParts). record { lines = 1 + behind [] b.sort lines; begun = b }) (read_back p plain line (head lines) is.same later.0) ∙ ap (λ n. record { lines = 1 + n; begun = begun_back p }) later.1

first_piece : (p : InfoParts) (line : List ℕ) (lines : List (List ℕ)) (rest pieces : List PieceParts) → piece [] None (line ∷ lines) ≡ piece_back p → ((others : List PieceParts) → ArePieces [] None lines others → others ≡ rest)
    → ArePieces [] None (line ∷ lines) pieces → pieces ≡ piece_back p ∷ rest
first_piece p line lines rest [] is later are = absurd (omega (arith, are))
first_piece p line lines rest (q ∷ qs) is later (one, others) =
    let same : q ≡ piece_back p = one.same ∙ is in
    let there : ArePieces [] None lines qs = subst (λ (r : PieceParts). ArePieces [] (name_behind r.begun.sort None (line ∷ lines)) (drop r.lines (line ∷ lines)) qs) same others in
    ap₂ (λ a b. a ∷ b) same (later qs there)

empty_piece : piece [] None ([] ∷ []) ≡ last_piece
empty_piece = ap (λ (b : BegunParts). record { lines = 1 + behind [] b.sort []; begun = b }) (begins_nothing (λ (shape : ShapeParts). shape) [] [] None refl refl)

none_left : (pieces : List PieceParts) → ArePieces [] None [] pieces → pieces ≡ []
none_left [] are = refl
none_left (q ∷ qs) (one, others) = absurd (omega (arith, one.some))

last_pieces : (pieces : List PieceParts) → ArePieces [] None ([] ∷ []) pieces → pieces ≡ last_piece ∷ []
last_pieces [] are = absurd (omega (arith, are))
last_pieces (q ∷ qs) (one, others) =
    let same : q ≡ last_piece = one.same ∙ empty_piece in
    let there : ArePieces [] None [] qs = subst (λ (r : PieceParts). ArePieces [] (name_behind r.begun.sort None ([] ∷ [])) (drop r.lines ([] ∷ [])) qs) same others in
    ap₂ (λ a b. a ∷ b) same (none_left qs there)

pub all_read_back : (problems : List InfoParts) → ArePlain problems → AreReadBack problems
all_read_back [] plain pieces are = last_pieces pieces (subst (λ lines. ArePieces [] None lines pieces) no_lines are)
all_read_back (p ∷ more) plain pieces are =
    let parts : (is_plain p ≡ true) × (list_all is_plain more ≡ true) = and_parts (is_plain p) (list_all is_plain more) plain in
    let (line, is) = line_for p parts.0 in
    let lines : List (List ℕ) = lines_of (flat_map problem_line more) in
    first_piece p line lines (map piece_back more ++ last_piece ∷ []) pieces (one_piece p line lines parts.0 is (apart_lines more parts.1)) (all_read_back more parts.1)
    (subst (λ lines. ArePieces [] None lines pieces) (next_lines p line more is) are)
