-- Lines that are read.
use Rattle.std.proofs.Common.{◌≡◌, ℕ, zero, suc, ◌+◌, ◌-◌, ◌≤◌, Result, get_or, sym, length-drop, Option, Ok, List, [], ◌∷◌, length, map, take, drop, Bor, refl, ap, ◌∙◌, arith}
use Rattle.std.proofs.lemmas.List.{take-map, take_all}
use Rattle.changed_rows.specs.declared.error.Refusal.{Refusal}
use Rattle.changed_rows.specs.Reading.{Seen, if_read, item_said, read_from}

-- what comes after so many lines
pub read_skip : (strip : Option ℕ) (row : ℕ) (seen : Seen) (skip : ℕ) (lines : List (List ℕ)) → skip ≤ length lines
    → read_from strip row seen skip lines ≡ read_from strip (row + skip) seen zero (drop skip lines)
read_skip strip row seen zero lines within = ap (λ n. read_from strip n seen zero lines) (omega arith)
read_skip strip row seen (suc skip) [] within = absurd (omega arith)
read_skip strip row seen (suc skip) (line ∷ rest) within =
    read_skip strip (row + 1) seen skip rest (omega arith) ∙ ap (λ n. read_from strip n seen zero (drop skip rest)) (omega arith)

-- what comes after what begins at a line
pub read_next : (strip : Option ℕ) (row : ℕ) (seen next : Seen) (taken : ℕ) (line : List ℕ) (rest : List (List ℕ)) → item_said strip row seen line rest ≡ Ok (next, taken)
    → taken ≤ length rest → read_from strip row seen zero (line ∷ rest) ≡ read_from strip (row + (1 + taken)) next zero (drop taken rest)
read_next strip row seen next taken line rest is within =
    ap (if_read (λ it. read_from strip (row + 1) it.0 it.1 rest)) is ∙ read_skip strip (row + 1) next taken rest within
    ∙ ap (λ n. read_from strip n next zero (drop taken rest)) (omega arith)

pub taken_lines : (n : ℕ) (lines : List (Bor (List ℕ))) → take n (map (λ line. line.now) lines) ≡ map (λ (line : Bor (List ℕ)). line.now) (take n lines)
taken_lines n lines = take-map (λ (line : Bor (List ℕ)). line.now) n lines

pub left_lines : (n : ℕ) (lines : List (Bor (List ℕ))) → drop n (map (λ line. line.now) lines) ≡ map (λ (line : Bor (List ℕ)). line.now) (drop n lines)
left_lines zero lines = refl
left_lines (suc n) [] = refl
left_lines (suc n) (line ∷ lines) = left_lines n lines

pub lines_left : (n : ℕ) (lines : List (Bor (List ℕ))) → n ≤ length lines
    → map (λ (line : Bor (List ℕ)). line.now) (take (length lines - n) (drop n lines)) ≡ drop n (map (λ line. line.now) lines)
lines_left n lines within =
    ap (map (λ (line : Bor (List ℕ)). line.now)) (take_all (length lines - n) (drop n lines) (omega (arith, length-drop n lines))) ∙ sym (left_lines n lines)

-- the first line and the others
pub first_and_rest : (lines : List (Bor (List ℕ))) (d : Bor (List ℕ)) → 1 ≤ length lines
    → map (λ (line : Bor (List ℕ)). line.now) lines ≡ (get_or lines 0 d).now ∷ map (λ (line : Bor (List ℕ)). line.now) (take (length lines - 1) (drop 1 lines))
first_and_rest [] d some = absurd (omega arith)
first_and_rest (line ∷ lines) d some =
    ap (λ rest. line.now ∷ map (λ (line : Bor (List ℕ)). line.now) rest) (sym (take_all (length (line ∷ lines) - 1) lines (omega arith)))

-- a turn of the loop over the lines
pub read_turn : (strip : Option ℕ) (row : ℕ) (seen next : Seen) (taken : ℕ) (line : List ℕ) (lines after left : List (List ℕ)) (all : Result Seen Refusal)
    → item_said strip row seen line after ≡ Ok (next, taken) → taken ≤ length after → lines ≡ line ∷ after → left ≡ drop taken after
    → read_from strip row seen zero lines ≡ all → read_from strip (row + (1 + taken)) next zero left ≡ all
read_turn strip row seen next taken line lines after left all is within parts rest before =
    ap (read_from strip (row + (1 + taken)) next zero) rest ∙ sym (read_next strip row seen next taken line after is within)
    ∙ ap (read_from strip row seen zero) (sym parts) ∙ before

pub others_length : (lines : List (Bor (List ℕ))) → 1 ≤ length lines → length (take (length lines - 1) (drop 1 lines)) ≡ length lines - 1
others_length [] some = absurd (omega arith)
others_length (line ∷ lines) some = ap length (take_all (length (line ∷ lines) - 1) lines (omega arith)) ∙ omega arith
