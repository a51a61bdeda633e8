-- Cells, one character after another.
use Rattle.std.proofs.Common.{◌≡◌, ℕ, zero, suc, ◌+◌, ◌-◌, ◌<◌, ◌≤◌, List, [], ◌∷◌, length, take, drop, true, false, slice_index, slice_range, ◌++◌, ◌&&◌, nat_lt, if◌then◌else◌, refl, sym, ap, ap₂, subst, ◌∙◌, arith, add-one, drop-cons, inl, inr}
use Rattle.std.proofs.Math.Seq.{take-add}
use Rattle.std.proofs.lemmas.Bool.{and_parts, cases_lt}
use Rattle.std.proofs.lemmas.Bool.Decides.{nat_tests}
use Rattle.std.proofs.lemmas.List.{drop_all}
use Rattle.std.specs.List.{list_all, prefix_len}
use Rattle.unicode_width.specs.Width.{char_width}
use Rattle.excerpt_lines.specs.Cells.{cells_of, cell_at, is_narrow, is_printable, narrow_end, over_cell, over_from, places_from, step}

next_of : (cell : ℕ) (line : List ℕ) (k : ℕ) → k < length line → cells_of cell (take (suc k) line) ≡ cells_of cell (take k line) + step (cells_of cell (take k line)) (slice_index line k)
next_of cell [] k within = absurd (omega arith)
next_of cell (c ∷ cs) zero within = refl
next_of cell (c ∷ cs) (suc k) within = next_of (cell + step cell c) cs k (omega arith)

pub cell_next : (line : List ℕ) (k : ℕ) → k < length line → cell_at line (k + 1) ≡ cell_at line k + step (cell_at line k) (slice_index line k)
cell_next line k within = rw (add-one k) (next_of 0 line k within)

cells_on : (cell : ℕ) (xs ys : List ℕ) → cells_of cell (xs ++ ys) ≡ cells_of (cells_of cell xs) ys
cells_on cell [] ys = refl
cells_on cell (c ∷ xs) ys = cells_on (cell + step cell c) xs ys

-- cells go on from one place of a line to the next
pub cells_go_on : (line : List ℕ) (i j : ℕ) → i ≤ j → cells_of (cell_at line i) (slice_range line i j) ≡ cell_at line j
cells_go_on line i j ordered =
    let e : i + (j - i) ≡ j = omega arith in
    sym (cells_on 0 (take i line) (take (j - i) (drop i line))) ∙ (ap (cells_of 0) (sym (take-add i (j - i) line)) ∙ ap (λ n. cells_of 0 (take n line)) e)

pub over_goes_on : (line : List ℕ) (cell begin k : ℕ) → k < length line → begin + step begin (slice_index line k) ≤ cell
    → over_from cell begin (drop k line) ≡ 1 + over_from cell (begin + step begin (slice_index line k)) (drop (k + 1) line)
over_goes_on line cell begin k within past = rw (add-one k, drop-cons line k 0 within) (grind (arith, nat_tests))

pub over_here : (line : List ℕ) (cell begin k : ℕ) → k < length line → cell < begin + step begin (slice_index line k) → over_from cell begin (drop k line) ≡ 0
over_here line cell begin k within less = rw (drop-cons line k 0 within) (grind (arith, nat_tests))

pub over_end : (line : List ℕ) (cell begin k : ℕ) → length line ≤ k → over_from cell begin (drop k line) ≡ cell - begin
over_end line cell begin k past = rw (drop_all k line past) refl

-- characters of one cell

pub one_cell : (cell c : ℕ) → is_printable c ≡ true → step cell c ≡ 1
unfolding char_width
one_cell cell c one = grind (arith, nat_tests)

plain_cells : (cell n : ℕ) (line : List ℕ) → n ≤ length line → list_all is_printable (take n line) ≡ true → cells_of cell (take n line) ≡ cell + n
plain_cells cell zero [] within all = omega arith
plain_cells cell zero (c ∷ cs) within all = omega arith
plain_cells cell (suc n) [] within all = absurd (omega (arith, within))
plain_cells cell (suc n) (c ∷ cs) within all =
    let parts = and_parts (is_printable c) (list_all is_printable (take n cs)) all in
    ap (λ s. cells_of (cell + s) (take n cs)) (one_cell cell c parts.0) ∙ (plain_cells (cell + 1) n cs (omega (arith, within)) parts.1 ∙ omega arith)

-- the same as `over_from`, where the first character takes these cells
abbrev over_with : ℕ → ℕ → List ℕ → ℕ → ℕ
over_with cell begin cs s = if nat_lt cell (begin + s) then 0 else 1 + over_from cell (begin + s) cs

plain_from : (begin n : ℕ) (line : List ℕ) → n < length line → list_all is_printable (take (suc n) line) ≡ true → over_from (begin + n) begin line ≡ n
plain_from begin n [] within all = absurd (omega (arith, within))
plain_from begin zero (c ∷ cs) within all =
    let one = one_cell begin c (and_parts (is_printable c) (list_all is_printable (take zero cs)) all).0 in
    let here : over_with (begin + zero) begin cs 1 ≡ 0 = grind (arith, nat_tests) in
    ap (over_with (begin + zero) begin cs) one ∙ here
plain_from begin (suc n) (c ∷ cs) within all =
    let parts = and_parts (is_printable c) (list_all is_printable (take (suc n) cs)) all in
    let same : begin + suc n ≡ begin + 1 + n = omega arith in
    let next : over_from (begin + suc n) (begin + 1) cs ≡ n = ap (λ m. over_from m (begin + 1) cs) same ∙ plain_from (begin + 1) n cs (omega (arith, within)) parts.1 in
    let past : over_with (begin + suc n) begin cs 1 ≡ 1 + over_from (begin + suc n) (begin + 1) cs = grind (arith, nat_tests) in
    ap (over_with (begin + suc n) begin cs) (one_cell begin c parts.0) ∙ (past ∙ omega (arith, next))

pub plain_over : (line : List ℕ) (cell : ℕ) → cell < length line → list_all is_printable (take (cell + 1) line) ≡ true → over_cell line cell ≡ cell
unfolding over_cell
plain_over line cell within all =
    let same : cell ≡ 0 + cell = omega arith in
    ap (λ m. over_from m 0 line) same ∙ plain_from 0 cell line within (subst (λ n. list_all is_printable (take n line) ≡ true) (add-one cell) all)

first_of : (n : ℕ) (line : List ℕ) → list_all is_printable (take (suc n) line) ≡ true → list_all is_printable (take n line) ≡ true
first_of zero [] all = refl
first_of zero (c ∷ cs) all = refl
first_of (suc n) [] all = refl
first_of (suc n) (c ∷ cs) all =
    let parts = and_parts (is_printable c) (list_all is_printable (take (suc n) cs)) all in
    ap₂ ◌&&◌ parts.0 (first_of n cs parts.1)

pub plain_begun : (line : List ℕ) (cell : ℕ) → cell < length line → list_all is_printable (take (cell + 1) line) ≡ true → cell_at line cell ≡ cell
plain_begun line cell within all =
    let so = subst (λ n. list_all is_printable (take n line) ≡ true) (add-one cell) all in
    plain_cells 0 cell line (omega (arith, within)) (first_of cell line so) ∙ omega arith

pub plain_covered : (line : List ℕ) (cell : ℕ) → cell < length line → list_all is_printable (take (cell + 1) line) ≡ true → cell_at line (cell + 1) ≡ cell + 1
plain_covered line cell within all = plain_cells 0 (cell + 1) line (omega (arith, within)) all ∙ omega arith

prefix_yes : (c : ℕ) (cs : List ℕ) → is_narrow c ≡ true → prefix_len is_narrow (c ∷ cs) ≡ 1 + prefix_len is_narrow cs
prefix_yes c cs narrow = rw narrow refl

prefix_no : (c : ℕ) (cs : List ℕ) → is_narrow c ≡ false → prefix_len is_narrow (c ∷ cs) ≡ 0
prefix_no c cs wide = rw wide refl

pub narrow_goes_on : (line : List ℕ) (k : ℕ) → k < length line → is_narrow (slice_index line k) ≡ true → narrow_end line k ≡ narrow_end line (k + 1)
unfolding narrow_end
narrow_goes_on line k within narrow = rw (add-one k, drop-cons line k 0 within) (omega (arith, prefix_yes (slice_index line k) (drop (suc k) line) narrow))

pub narrow_stops : (line : List ℕ) (k : ℕ) → (k < length line → is_narrow (slice_index line k) ≡ false) → narrow_end line k ≡ k
unfolding narrow_end
narrow_stops line k wide =
    elim (cases_lt k (length line)) [
      | inl inside ↦ rw (drop-cons line k 0 inside) (omega (arith, prefix_no (slice_index line k) (drop (suc k) line) (wide inside)))
      | inr past ↦ rw (drop_all k line past) (omega arith)
    ]

pub none_from : (k cell : ℕ) (line : List ℕ) → places_from [] k cell line ≡ []
none_from k cell [] = refl
none_from k cell (c ∷ cs) = none_from (k + 1) (cell + step cell c) cs

pub no_places : (cells line : List ℕ) → length cells ≡ 0 → places_from cells 0 0 line ≡ []
no_places [] line none = none_from 0 0 line
no_places (cell ∷ cells) line none = absurd (omega (arith, none))

pub ruleset overs = (over_goes_on, over_here, over_end, plain_begun, plain_covered, plain_over)

pub ruleset narrows = (narrow_goes_on, narrow_stops)
