-- What stands behind a problem's name is its place, and it is the place of the line.
use Rattle.std.proofs.Common.{◌≡◌, ℕ, ◌+◌, ◌-◌, ◌^◌, ◌<◌, ◌≤◌, ◌==◌, true, false, if◌then◌else◌, List, [], ◌∷◌, ◌++◌, length, drop, Some, None, decimal, refl, ap, ◌∙◌, arith}
use Rattle.std.specs.List.{slice_index, range_with_len}
use Rattle.std.specs.Option.{option_map, option_and_then, option_or}
use Rattle.std.proofs.lemmas.List.{take_at, drop_at, length-append}
use Rattle.line_shapes.specs.declared.bytes.Kind.TheVariants.{Blank}
use Rattle.line_shapes.specs.declared.name.NameKind.{NameKind}
use Rattle.line_shapes.specs.declared.name.NameKind.TheVariants.{Any}
use Rattle.line_shapes.specs.declared.part.Figure.{Figure}
use Rattle.line_shapes.specs.declared.part.Figure.TheVariants.{Line, Column, EndLine, EndColumn}
use Rattle.line_shapes.specs.declared.part.Part.{Part}
use Rattle.line_shapes.specs.declared.part.Part.TheVariants.{Byte, Blanks, Decimal, Level}
use Rattle.line_shapes.specs.Bytes.{is_in, some_run}
use Rattle.line_shapes.specs.Name.{is_name}
use Rattle.line_shapes.specs.Part.{Seen, before, behind, byte_taken, fit, with_figure}
use Rattle.line_shapes.specs.Place.{Place, afters, first_fit, fits_behind, first_some, in_lead, in_leads, leads, named, place, placed_at}
use Rattle.line_shapes.proofs.PartLemmas.{no_run}
use Rattle.line_shapes.proofs.PlaceLemmas.{up_to}
use Rattle.finding_laws.specs.Problems.Plain.{has_no_colon}
use Rattle.finding_laws.proofs.ProblemLemmas.Number.{decimal_front, number_there, rest_there}
use Rattle.finding_laws.proofs.ProblemLemmas.NameBack.{name_in_line, name_some, no_shorter}

-- a colon and a number
colon_number : (figure : Figure) (parts : List Part) (s : Seen) (n : ℕ) (more : List ℕ) → n < 2 ^ 32
    → fit (Byte 0x3A ∷ (Decimal figure ∷ parts)) (record s { rest = 0x3A ∷ (decimal n ++ 0x3A ∷ more) }) ≡ fit parts (with_figure figure n (record s { rest = 0x3A ∷ more }))
colon_number figure parts s n more low =
    ap (λ o. option_and_then (fit parts) (option_map (λ (it : ℕ × ℕ). with_figure figure it.1 (behind it.0 (record s { rest = decimal n ++ 0x3A ∷ more }))) o)) (number_there n 0x3A more low refl)
    ∙ ap (λ text. fit parts (with_figure figure n (record s { rest = text }))) (rest_there n 0x3A more)

-- one blank
pub blank_taken : (text : List ℕ) (parts : List Part) (s : Seen) → is_in Blank (slice_index text 0) ≡ false → fit (Blanks ∷ parts) (record s { rest = 0x20 ∷ text }) ≡ fit parts (record s { rest = text })
blank_taken text parts s none = ap (λ n. option_and_then (fit parts) (option_map (λ (count : ℕ). behind count (record s { rest = 0x20 ∷ text })) (some_run (1 + n)))) (no_run Blank text none)

-- both places behind their first colon, and one blank
abbrev pub numbers_text : ℕ → ℕ → ℕ → ℕ → List ℕ → List ℕ
numbers_text line column end_line end_column rest = decimal line ++ 0x3A ∷ (decimal column ++ 0x3A ∷ (decimal end_line ++ 0x3A ∷ (decimal end_column ++ 0x3A ∷ 0x20 ∷ rest)))

abbrev pub places_found : ℕ → ℕ → ℕ → ℕ → Seen → Seen
places_found line column end_line end_column s = record s { line = Some line; column = Some column; end_line = Some end_line; end_column = Some end_column }

abbrev place_row : List Part
place_row = Byte 0x3A ∷ (Decimal Line ∷ (Byte 0x3A ∷ (Decimal Column ∷ (Byte 0x3A ∷ (Decimal EndLine ∷ (Byte 0x3A ∷ (Decimal EndColumn ∷ (Byte 0x3A ∷ (Blanks ∷ [])))))))))

four_numbers : (s : Seen) (line column end_line end_column : ℕ) (rest : List ℕ) → line < 2 ^ 32 → column < 2 ^ 32 → end_line < 2 ^ 32 → end_column < 2 ^ 32 → is_in Blank (slice_index rest 0) ≡ false
    → fit place_row (record s { rest = 0x3A ∷ numbers_text line column end_line end_column rest })
    ≡ Some (places_found line column end_line end_column (record s { rest = rest }))
four_numbers s line column end_line end_column rest a b c d none =
    colon_number Line (Byte 0x3A ∷ (Decimal Column ∷ (Byte 0x3A ∷ (Decimal EndLine ∷ (Byte 0x3A ∷ (Decimal EndColumn ∷ (Byte 0x3A ∷ (Blanks ∷ [])))))))) s line (decimal column ++ 0x3A ∷ (decimal end_line ++ 0x3A ∷ (decimal end_column ++ 0x3A ∷ 0x20 ∷ rest))) a
    ∙ (colon_number Column (Byte 0x3A ∷ (Decimal EndLine ∷ (Byte 0x3A ∷ (Decimal EndColumn ∷ (Byte 0x3A ∷ (Blanks ∷ [])))))) (with_figure Line line s) column (decimal end_line ++ 0x3A ∷ (decimal end_column ++ 0x3A ∷ 0x20 ∷ rest)) b
    ∙ (colon_number EndLine (Byte 0x3A ∷ (Decimal EndColumn ∷ (Byte 0x3A ∷ (Blanks ∷ [])))) (with_figure Column column (with_figure Line line s)) end_line (decimal end_column ++ 0x3A ∷ 0x20 ∷ rest) c
    ∙ (colon_number EndColumn (Byte 0x3A ∷ (Blanks ∷ [])) (with_figure EndLine end_line (with_figure Column column (with_figure Line line s))) end_column (0x20 ∷ rest) d
    ∙ blank_taken rest [] (places_found line column end_line end_column s) none)))

-- of some shapes the first that fits
first_row : (row : List Part) (more : List (List Part)) (s found : Seen) → fit row s ≡ Some found → first_fit (row ∷ more) s ≡ Some found
first_row row more s found e = ap (λ o. option_or o (first_fit more s)) e

behind_name : (s : Seen) (line column end_line end_column : ℕ) (rest : List ℕ) → line < 2 ^ 32 → column < 2 ^ 32 → end_line < 2 ^ 32 → end_column < 2 ^ 32 → is_in Blank (slice_index rest 0) ≡ false
    → first_fit afters (record s { rest = 0x3A ∷ numbers_text line column end_line end_column rest }) ≡ Some (places_found line column end_line end_column (record s { rest = rest }))
unfolding afters
behind_name s line column end_line end_column rest a b c d none =
    first_row place_row (drop 1 afters) (record s { rest = 0x3A ∷ numbers_text line column end_line end_column rest }) (places_found line column end_line end_column (record s { rest = rest })) (four_numbers s line column end_line end_column rest a b c d none)

-- the place of a line
later_lead : (lead : List Part × NameKind) (more : List (List Part × NameKind)) (line : List ℕ) → fit lead.0 (before line) ≡ None → in_leads (lead ∷ more) line ≡ in_leads more line
later_lead lead more line none = ap (λ o. option_or (option_and_then (in_lead lead.1) o) (in_leads more line)) none

empty_lead : (kind : NameKind) (more : List (List Part × NameKind)) (line : List ℕ) (p : Place) → in_lead kind (before line) ≡ Some p → in_leads (([], kind) ∷ more) line ≡ Some p
empty_lead kind more line p is = ap (λ o. option_or o (in_leads more line)) is

pub no_bracket_there : (text : List ℕ) (s : Seen) → (slice_index text 0 == 0x5B) ≡ false → byte_taken 0x5B text s ≡ None
no_bracket_there [] s none = refl
no_bracket_there (x ∷ xs) s none = ap (λ v. if v then Some (record s { rest = xs }) else None) none

pub first_of : (name rest : List ℕ) → 1 ≤ length name → slice_index (name ++ rest) 0 ≡ slice_index name 0
first_of [] rest some = absurd (omega arith)
first_of (x ∷ xs) rest some = refl

abbrev pub line_of : List ℕ → List ℕ → List ℕ
line_of name tail = name ++ 0x3A ∷ tail

named_here : (name tail : List ℕ) (found : Seen) → has_no_colon name ≡ true → is_name Any name (length name) ≡ true → first_fit afters (record (before (line_of name tail)) { rest = 0x3A ∷ tail }) ≡ Some found
    → placed_at Any (before (line_of name tail)) (length name) ≡ Some (record { name = name; found = found })
unfolding placed_at
named_here name tail found none is here =
    let line : List ℕ = line_of name tail in
    let n : ℕ = length name in
    let fits : fits_behind (before line) n ≡ Some found = ap (λ text. first_fit afters (record (before line) { rest = text })) (drop_at name (0x3A ∷ tail) n refl) ∙ here in
    ap (λ v. if v then option_map (named (before line) n) (fits_behind (before line) n) else None) (name_in_line name (0x3A ∷ tail) none is)
    ∙ (ap (option_map (named (before line) n)) fits ∙ ap (λ text. Some (record { name = text; found = found })) (take_at name (0x3A ∷ tail) n refl))

in_empty_lead : (name tail : List ℕ) (found : Seen) → has_no_colon name ≡ true → is_name Any name (length name) ≡ true → is_in Blank (slice_index tail 0) ≡ false
    → first_fit afters (record (before (line_of name tail)) { rest = 0x3A ∷ tail }) ≡ Some found → in_lead Any (before (line_of name tail)) ≡ Some (record { name = name; found = found })
unfolding in_lead
in_empty_lead name tail found none is other here =
    let line : List ℕ = line_of name tail in
    let within : length name < length line = omega (arith, length-append name (0x3A ∷ tail)) in
    up_to (placed_at Any (before line)) 1 (length name) (length line) (name_some name is) within (λ k low high. no_shorter name tail k none other high)
    ∙ ap (λ o. option_or o (first_some (placed_at Any (before line)) (range_with_len (length name + 1) (length line - (length name + 1))))) (named_here name tail found none is here)

place_of_line : (name tail : List ℕ) (found : Seen) → has_no_colon name ≡ true → is_name Any name (length name) ≡ true → (slice_index name 0 == 0x5B) ≡ false → is_in Blank (slice_index tail 0) ≡ false
    → first_fit afters (record (before (line_of name tail)) { rest = 0x3A ∷ tail }) ≡ Some found → place (line_of name tail) ≡ Some (record { name = name; found = found })
unfolding leads
place_of_line name tail found none is no_bracket other here =
    let line : List ℕ = line_of name tail in
    let first : (slice_index line 0 == 0x5B) ≡ false = ap (λ byte. byte == 0x5B) (first_of name (0x3A ∷ tail) (name_some name is)) ∙ no_bracket in
    later_lead (Byte 0x5B ∷ (Level ∷ (Byte 0x5D ∷ (Blanks ∷ []))), Any) (drop 1 leads) line (ap (option_and_then (fit (Level ∷ (Byte 0x5D ∷ (Blanks ∷ []))))) (no_bracket_there line (before line) first))
    ∙ empty_lead Any (drop 2 leads) line (record { name = name; found = found }) (in_empty_lead name tail found none is other here)

-- behind a colon stands a digit, and so no blank
no_blank_there : (line column end_line end_column : ℕ) (rest : List ℕ) → line < 2 ^ 32 → is_in Blank (slice_index (numbers_text line column end_line end_column rest) 0) ≡ false
no_blank_there line column end_line end_column rest low = decimal_front line (0x3A ∷ (decimal column ++ 0x3A ∷ (decimal end_line ++ 0x3A ∷ (decimal end_column ++ 0x3A ∷ 0x20 ∷ rest)))) low

pub place_back : (name : List ℕ) (line column end_line end_column : ℕ) (rest : List ℕ) → has_no_colon name ≡ true → is_name Any name (length name) ≡ true → (slice_index name 0 == 0x5B) ≡ false
    → line < 2 ^ 32 → column < 2 ^ 32 → end_line < 2 ^ 32 → end_column < 2 ^ 32 → is_in Blank (slice_index rest 0) ≡ false
    → place (line_of name (numbers_text line column end_line end_column rest)) ≡ Some (record { name = name; found = places_found line column end_line end_column (before rest) })
place_back name line column end_line end_column rest none is no_bracket a b c d rest_blank =
    let tail : List ℕ = numbers_text line column end_line end_column rest in
    place_of_line name tail (places_found line column end_line end_column (before rest)) none is no_bracket (no_blank_there line column end_line end_column rest a)
    (behind_name (before (line_of name tail)) line column end_line end_column rest a b c d rest_blank)
