-- A text that fills one line is that line.
use Rattle.std.proofs.Common.{◌≡◌, ℕ, ◌+◌, ◌<◌, ◌≤◌, ◌==◌, nat_le, Bool, true, false, not, List, [], ◌∷◌, ◌++◌, length, take, drop, if◌then◌else◌, refl, sym, ap, subst, ◌∙◌, arith}
use Rattle.std.specs.List.{flat_map, slice_split, onto_first}
use Rattle.std.specs.Str.{IsUtf8}
use Rattle.std.proofs.lemmas.List.{append-nil, take_all, length-append}
use Rattle.std.proofs.lemmas.Bool.Decides.{nat_tests}
use Rattle.textwrap.specs.Lines.{joined, first_fit}
use Rattle.textwrap.specs.Pieces.{PieceView, pieces}
use Rattle.textwrap.specs.Filled.{room, line_text, lines_of, part_lines, joined_by_breaks, parts_of, filled_part, filled_parts, filled}
use Rattle.report_reader.specs.Title.{without_last_spaces}
use Rattle.report_reader.proofs.TitleWords.{has_no, both_first, both_last, has_no_last}
use Rattle.report_reader.proofs.TitleCuts.{pieces_are, line_of_pieces}
use Rattle.report_reader.proofs.BytesLemmas.{not_eq}

-- lines without LF between them are one line
one_of : (line : List ℕ) (more : List (List ℕ)) → has_no 0x0A (joined_by_breaks (line ∷ more)) ≡ true → joined_by_breaks (line ∷ more) ≡ line
unfolding joined_by_breaks
one_of line [] clean = append-nil line
one_of line (next ∷ more) clean = let no : false ≡ true = has_no_last 0x0A line (0x0A ∷ (next ++ flat_map (λ l. 0x0A ∷ l) more)) clean in cc

only_one : (line : List ℕ) (more : List (List ℕ)) → has_no 0x0A (joined_by_breaks (line ∷ more)) ≡ true → more ≡ []
unfolding joined_by_breaks
only_one line [] clean = refl
only_one line (next ∷ more) clean = let no : false ≡ true = has_no_last 0x0A line (0x0A ∷ (next ++ flat_map (λ l. 0x0A ∷ l) more)) clean in cc

-- some lines, of which there is one
abbrev IsLines : List (List ℕ) → Type 0
IsLines lines = 0 < length lines

fit_some : (room later used gap count : ℕ) (ps : List PieceView) → 0 < length (joined room later used gap count ps)
unfolding joined
fit_some room later used gap count [] = omega arith
fit_some room later used gap count (p ∷ more) =
    elim (nat_le (used + gap + p.width) room) as (λ v. 0 < length (if v then joined room later (used + gap + p.width) p.gap (count + 1) more else count ∷ joined later later p.width p.gap 1 more)) [
      | true ↦ fit_some room later (used + gap + p.width) p.gap (count + 1) more
      | false ↦ omega arith
    ]

-- where there is one line, it has all the pieces
fit_one : (room later used gap count n : ℕ) (ps : List PieceView) → joined room later used gap count ps ≡ n ∷ [] → n ≡ count + length ps
unfolding joined
fit_one room later used gap count n [] is = let e : count ≡ n = cc in omega (arith, e)
fit_one room later used gap count n (p ∷ more) is =
    elim (nat_le (used + gap + p.width) room) as (λ v. (if v then joined room later (used + gap + p.width) p.gap (count + 1) more else count ∷ joined later later p.width p.gap 1 more) ≡ n ∷ [] → n ≡ count + length (p ∷ more)) [
      | true ↦ λ e. omega (arith, fit_one room later (used + gap + p.width) p.gap (count + 1) n more e)
      | false ↦ λ e. let none : joined later later p.width p.gap 1 more ≡ [] = cc in absurd (omega (arith, fit_some later later p.width p.gap 1 more, ap length none))
    ] is

laid_one : (first later : List ℕ) (ps : List PieceView) (counts : List ℕ) → 0 < length counts → ((n : ℕ) → counts ≡ n ∷ [] → n ≡ length ps)
    → (line : List ℕ) (more : List (List ℕ)) → lines_of first later ps counts ≡ line ∷ more → more ≡ [] → line ≡ first ++ line_text ps
unfolding lines_of
laid_one first later ps [] some whole line more is none = absurd (omega (arith, some))
laid_one first later ps (n ∷ []) some whole line more is none =
    let e : first ++ line_text (take n ps) ≡ line = cc in
    sym e ∙ ap (λ l. first ++ line_text l) (take_all n ps (omega (arith, whole n refl)))
laid_one first later ps (n ∷ m ∷ counts) some whole line more is none =
    let e : (later ++ line_text (take m (drop n ps))) ∷ lines_of later later (drop m (drop n ps)) counts ≡ more = cc in
    let no : (later ++ line_text (take m (drop n ps))) ∷ lines_of later later (drop m (drop n ps)) counts ≡ [] = e ∙ none in cc

nothing_more : line_text [] ≡ []
unfolding line_text
nothing_more = refl

fitted : (first_room later_room : ℕ) (first later : List ℕ) (ps : List PieceView) (line : List ℕ) (more : List (List ℕ))
    → part_lines first later ps (first_fit first_room later_room ps) ≡ line ∷ more → more ≡ [] → line ≡ first ++ line_text ps
unfolding first_fit
fitted first_room later_room first later [] line more is none =
    let e : first ≡ line = cc in sym e ∙ sym (ap (λ l. first ++ l) nothing_more ∙ append-nil first)
fitted first_room later_room first later (p ∷ ps) line more is none =
    laid_one first later (p ∷ ps) (joined first_room later_room p.width p.gap 1 ps) (fit_some first_room later_room p.width p.gap 1 ps)
    (λ n e. omega (arith, fit_one first_room later_room p.width p.gap 1 n ps e)) line more is none

some_part : (width : ℕ) (first later part : List ℕ) (line : List ℕ) (more : List (List ℕ)) → filled_part width first later part ≡ line ∷ more → more ≡ [] → IsUtf8 part → line ≡ first ++ without_last_spaces part
unfolding filled_part
some_part width first later part line more is none utf8 =
    let of = pieces_are (room width later) part utf8 in
    fitted (room width first) (room width later) first later (pieces (room width later) part) line more is none
    ∙ ap (λ l. first ++ l) (line_of_pieces (pieces (room width later) part) part of.0 of.1)

-- the text's parts: one where it holds no LF, and two at least where it does
one_part : (text : List ℕ) → has_no 0x0A text ≡ true → slice_split (λ byte. byte == 0x0A) text ≡ text ∷ []
one_part [] clean = refl
one_part (b ∷ text) clean =
    let other : (b == 0x0A) ≡ false = not_eq b 0x0A (both_first (not (b == 0x0A)) (has_no 0x0A text) clean) in
    let later = one_part text (both_last (not (b == 0x0A)) (has_no 0x0A text) clean) in
    rw (other, later) refl

abbrev AreTwo : List (List ℕ) → Type 0
AreTwo parts = 1 < length parts

more_parts : (b : ℕ) (parts : List (List ℕ)) → AreTwo parts → AreTwo (onto_first b parts)
more_parts b [] two = absurd (omega (arith, two))
more_parts b (part ∷ parts) two = two

some_onto : (b : ℕ) (parts : List (List ℕ)) → 0 < length parts → 0 < length (onto_first b parts)
some_onto b [] some = absurd (omega (arith, some))
some_onto b (part ∷ parts) some = some

some_parts : (text : List ℕ) → 0 < length (slice_split (λ byte. byte == 0x0A) text)
some_parts [] = omega arith
some_parts (b ∷ text) =
    elim (b == 0x0A) as (λ v. 0 < length (if v then [] ∷ slice_split (λ byte. byte == 0x0A) text else onto_first b (slice_split (λ byte. byte == 0x0A) text))) [
      | true ↦ omega arith
      | false ↦ some_onto b (slice_split (λ byte. byte == 0x0A) text) (some_parts text)
    ]

two_by : (b : ℕ) (text : List ℕ) (here : Bool) → (b == 0x0A) ≡ here → has_no 0x0A (b ∷ text) ≡ false → (has_no 0x0A text ≡ false → AreTwo (slice_split (λ byte. byte == 0x0A) text))
    → AreTwo (if here then [] ∷ slice_split (λ byte. byte == 0x0A) text else onto_first b (slice_split (λ byte. byte == 0x0A) text))
two_by b text true is clean later = omega (arith, some_parts text)
two_by b text false is clean later = more_parts b (slice_split (λ byte. byte == 0x0A) text) (later (rw is at clean))

two_parts : (text : List ℕ) → has_no 0x0A text ≡ false → AreTwo (slice_split (λ byte. byte == 0x0A) text)
two_parts [] clean = let no : true ≡ false = clean in cc
two_parts (b ∷ text) clean = two_by b text (b == 0x0A) refl clean (two_parts text)

-- each part gives a line
lines_some : (first later : List ℕ) (ps : List PieceView) (counts : List ℕ) → 0 < length counts → 0 < length (lines_of first later ps counts)
unfolding lines_of
lines_some first later ps [] some = absurd (omega (arith, some))
lines_some first later ps (n ∷ counts) some = omega arith

part_some : (first_room later_room : ℕ) (first later : List ℕ) (ps : List PieceView) → 0 < length (part_lines first later ps (first_fit first_room later_room ps))
unfolding first_fit
part_some first_room later_room first later [] = omega arith
part_some first_room later_room first later (p ∷ ps) = lines_some first later (p ∷ ps) (joined first_room later_room p.width p.gap 1 ps) (fit_some first_room later_room p.width p.gap 1 ps)

part_line : (width : ℕ) (first later part : List ℕ) → 0 < length (filled_part width first later part)
unfolding filled_part
part_line width first later part = part_some (room width first) (room width later) first later (pieces (room width later) part)

parts_lines : (width : ℕ) (first later : List ℕ) (parts : List (List ℕ)) → length parts ≤ length (filled_parts width first later parts)
unfolding filled_parts
parts_lines width first later [] = omega arith
parts_lines width first later (part ∷ parts) =
    omega (arith, length-append (filled_part width first later part) (filled_parts width later later parts), part_line width first later part, parts_lines width later later parts)

-- lines that hold no LF between them
lines_one : (lines : List (List ℕ)) → has_no 0x0A (joined_by_breaks lines) ≡ true → length lines ≤ 1
lines_one [] clean = omega arith
lines_one (line ∷ more) clean = omega (arith, ap length (only_one line more clean))

parts_one : (width : ℕ) (first later part : List ℕ) → filled_parts width first later (part ∷ []) ≡ filled_part width first later part
unfolding filled_parts
parts_one width first later part = append-nil (filled_part width first later part)

line_is : (width : ℕ) (first later text : List ℕ) (lines : List (List ℕ)) → filled_part width first later text ≡ lines → 0 < length lines → length lines ≤ 1 → IsUtf8 text
    → joined_by_breaks lines ≡ first ++ without_last_spaces text
unfolding joined_by_breaks
line_is width first later text [] is some one utf8 = absurd (omega (arith, some))
line_is width first later text (line ∷ []) is some one utf8 = append-nil line ∙ some_part width first later text line [] is refl utf8
line_is width first later text (line ∷ next ∷ more) is some one utf8 = absurd (omega (arith, one))

clean_text : (width : ℕ) (first later text : List ℕ) (clean : Bool) → has_no 0x0A text ≡ clean → IsUtf8 text → has_no 0x0A (filled width first later text) ≡ true → filled width first later text ≡ first ++ without_last_spaces text
unfolding filled
clean_text width first later text false is utf8 one =
    absurd (omega (arith, two_parts text is, lines_one (filled_parts width first later (parts_of text)) one, parts_lines width first later (parts_of text)))
clean_text width first later text true is utf8 one =
    let parts : filled_parts width first later (parts_of text) ≡ filled_part width first later text = ap (filled_parts width first later) (one_part text is) ∙ parts_one width first later text in
    let most : length (filled_part width first later text) ≤ 1 = lines_one (filled_part width first later text) (subst (λ l. has_no 0x0A (joined_by_breaks l) ≡ true) parts one) in
    ap joined_by_breaks parts ∙ line_is width first later text (filled_part width first later text) refl (part_line width first later text) most utf8

-- a text that fills one line is that line, behind its indent, without the spaces at its end
pub one_line : (width : ℕ) (first later text : List ℕ) → IsUtf8 text → has_no 0x0A (filled width first later text) ≡ true → filled width first later text ≡ first ++ without_last_spaces text
one_line width first later text = λ utf8 one. clean_text width first later text (has_no 0x0A text) refl utf8 one
