-- How many breaks end in a part of a source, and where the row of an offset starts.
use Rattle.std.proofs.Common.{◌≡◌, ℕ, zero, suc, ◌+◌, ◌-◌, ◌<◌, ◌≤◌, ◌&&◌, ◌||◌, not, Bool, true, false, cond, List, ◌∷◌, [], length, get_or, take, drop, slice_range, Some, None, refl, sym, ap, subst, ◌∙◌, arith, eqb, ⊎_elim, count_by}
use Rattle.std.proofs.lemmas.Bool.{cases_lt}
use Rattle.std.proofs.lemmas.Bool.Decides.{nat_tests}
use Rattle.std.proofs.lemmas.List.{get_or_past, drop_more, get_or-take, get_or-drop, length-take, length-drop, take_all}
use Rattle.std.proofs.Math.ListN.{drop_of_length-le}
use Rattle.std.proofs.lemmas.List.Sums.{sum_by-cons}
use Rattle.memchr.specs.Find.{is_byte, is_byte2, places, places_from, IsLastByte}
use Rattle.oxc_windows.specs.Breaks.{breaks_of, ends_break, is_lone_return}
use Rattle.oxc_windows.specs.Rows.{byte_column, row_of, row_start, settled}
use Rattle.oxc_windows.proofs.BreaksLemmas.{few_breaks}
use Rattle.oxc_windows.proofs.ByteRowsLemmas.{number_cases, row_after_end, row_after_other, row_next, rows_begin, settled_other, settled_pair}
use Rattle.oxc_windows.proofs.RowsLemmas.{row_le, row_start_first}

pair_says : (a b : ℕ) → a ≡ 13 → b ≡ 10 → (eqb a 10 || (eqb a 13 && not (eqb b 10))) ≡ false
pair_says a b cr lf = grind (arith, nat_tests)

-- a byte ends a break as an LF or as a lone CR, and never as both
one_end : (a b : ℕ) → cond (eqb a 10) 1 0 + cond (eqb a 13 && (eqb a 13 && not (eqb b 10))) 1 0 ≡ cond (eqb a 10 || (eqb a 13 && not (eqb b 10))) 1 0
one_end a b = grind (arith, nat_tests)

-- a place more, if it is one of those that are searched
place_more : (p : ℕ → Bool) (found passes : Bool) (i : ℕ) (later : List ℕ) → p i ≡ passes → count_by p (cond found (i ∷ later) later) ≡ cond (found && passes) 1 0 + count_by p later
place_more p true passes i later e = sum_by-cons (λ k. cond (p k) 1 0) i later ∙ ap (λ b. cond b 1 0 + count_by p later) e
place_more p false passes i later e = omega arith

-- the LFs of a part from its place i on, and its CRs from there on that no LF follows, are as many as the rows that begin behind them
ended_from : (bytes rest part : List ℕ) (from i n : ℕ) → i + n ≡ length part → from + length part ≤ length bytes
    → ((k : ℕ) → get_or rest k 0 ≡ get_or bytes (from + k) 0) → ((k : ℕ) → k < length part → get_or part k 0 ≡ get_or bytes (from + k) 0)
    → row_of (breaks_of bytes) (from + i) + (count_by (λ byte. eqb byte 10) (drop i part) + count_by (is_lone_return rest) (places_from (is_byte 13) part i n)) ≡ row_of (breaks_of bytes) (from + length part)
unfolding places_from
ended_from bytes rest part from i zero e fits all within =
    let none : drop i part ≡ [] = drop_of_length-le part (omega arith) in
    let here : from + i ≡ from + length part = omega arith in
    rw none (omega (arith, ap (row_of (breaks_of bytes)) here))
ended_from bytes rest part from i (suc n) e fits all within =
    let lt : i < length part = omega arith in
    let x = get_or part i 0 in
    let b = get_or bytes (from + i + 1) 0 in
    let is : x ≡ get_or bytes (from + i) 0 = within i lt in
    let place : from + (i + 1) ≡ from + i + 1 = omega arith in
    let later = ended_from bytes rest part from (i + 1) n (omega arith) fits all within in
    let rest_is : row_of (breaks_of bytes) (from + i + 1) + (count_by (λ byte. eqb byte 10) (drop (i + 1) part) + count_by (is_lone_return rest) (places_from (is_byte 13) part (i + 1) n)) ≡ row_of (breaks_of bytes) (from + length part) = rw place at later in
    let says : ends_break bytes (from + i) ≡ (eqb x 10 || (eqb x 13 && not (eqb b 10))) = rw is refl in
    let row = row_next bytes (from + i) (omega arith) (eqb x 10 || (eqb x 13 && not (eqb b 10))) says in
    let after : get_or rest (i + 1) 0 ≡ b = all (i + 1) ∙ ap (λ k. get_or bytes k 0) place in
    let lone : is_lone_return rest i ≡ (eqb x 13 && not (eqb b 10)) = rw (all i, after, is) refl in
    let lfs : count_by (λ byte. eqb byte 10) (drop i part) ≡ cond (eqb x 10) 1 0 + count_by (λ byte. eqb byte 10) (drop (i + 1) part) =
    ap (count_by (λ byte. eqb byte 10)) (drop_more part i 0 lt) ∙ sum_by-cons (λ byte. cond (eqb byte 10) 1 0) x (drop (i + 1) part) in
    let crs : count_by (is_lone_return rest) (places_from (is_byte 13) part i (suc n)) ≡ cond (eqb x 13 && (eqb x 13 && not (eqb b 10))) 1 0 + count_by (is_lone_return rest) (places_from (is_byte 13) part (i + 1) n) =
    place_more (is_lone_return rest) (eqb x 13) (eqb x 13 && not (eqb b 10)) i (places_from (is_byte 13) part (i + 1) n) lone in
    omega (arith, lfs, crs, one_end x b, row, rest_is)

-- the breaks that end in a part: its LFs, and its CRs that no LF follows
pub ended_in : (bytes : List ℕ) (from to : ℕ) → from ≤ to → to ≤ length bytes
    → row_of (breaks_of bytes) from + (count_by (λ byte. eqb byte 10) (slice_range bytes from to) + count_by (is_lone_return (slice_range bytes from (length bytes))) (places (is_byte 13) (slice_range bytes from to))) ≡ row_of (breaks_of bytes) to
ended_in bytes from to le fits =
    let tail = drop from bytes in
    let rest : slice_range bytes from (length bytes) ≡ tail = take_all (length bytes - from) tail (omega (arith, length-drop from bytes)) in
    let part = slice_range bytes from to in
    let long : length part ≡ to - from = length-take (to - from) tail ∙ omega (arith, length-drop from bytes) in
    let all : (k : ℕ) → get_or tail k 0 ≡ get_or bytes (from + k) 0 = λ k. get_or-drop from bytes k 0 in
    let within : (k : ℕ) → k < length part → get_or part k 0 ≡ get_or bytes (from + k) 0 = λ k lt. get_or-take (to - from) tail k 0 (omega (arith, long)) ∙ all k in
    let whole = ended_from bytes tail part from 0 (length part) (omega arith) (omega (arith, long)) all within in
    let start : from + 0 ≡ from = omega arith in
    let end : from + length part ≡ to = omega (arith, long) in
    let size : length part - 0 ≡ length part = omega arith in
    rw (rest, size) (rw (start, end) at whole)

-- a row has a number that fits, and one more of it does
pub row_small : (bytes : List ℕ) (o : ℕ) → row_of (breaks_of bytes) o ≤ length bytes
row_small bytes o = omega (arith, row_le (breaks_of bytes) o, few_breaks bytes)

-- no break ends in a part: the row goes on
row_stays : (bytes : List ℕ) (from n : ℕ) → ((k : ℕ) → from ≤ k → k < from + n → ends_break bytes k ≡ false) → row_of (breaks_of bytes) (from + n) ≡ row_of (breaks_of bytes) from
row_stays bytes from zero none = ap (row_of (breaks_of bytes)) (omega arith)
row_stays bytes from (suc n) none =
    let place : from + suc n ≡ from + n + 1 = omega arith in
    ap (row_of (breaks_of bytes)) place ∙ row_after_other bytes (from + n) (none (from + n) (omega arith) (omega arith))
    ∙ row_stays bytes from n (λ k low high. none k low (omega arith))

-- a byte that is neither LF nor CR ends no break
ends_not : (bytes : List ℕ) (at : ℕ) → (is_byte2 10 13 (get_or bytes at 0) ≡ true → ⊥) → ends_break bytes at ≡ false
ends_not bytes at other = grind (arith, nat_tests)

-- an LF or a CR ends a break, unless an LF follows a CR
ends_at : (bytes : List ℕ) (at : ℕ) → is_byte2 10 13 (get_or bytes at 0) ≡ true → (get_or bytes at 0 ≡ 13 → get_or bytes (at + 1) 0 ≡ 10 → ⊥) → ends_break bytes at ≡ true
ends_at bytes at here other = grind (arith, nat_tests)

is_lf : (b : ℕ) → b ≡ 10 → is_byte2 10 13 b ≡ true
is_lf b e = grind (arith, nat_tests)

-- the row of a place starts behind the last LF or CR before it, if no CRLF stands across it
pub row_start_found : (bytes : List ℕ) (s at : ℕ) → s ≤ length bytes → IsLastByte (is_byte2 10 13) (take s bytes) (Some at)
    → (0 < s → get_or bytes (s - 1) 0 ≡ 13 → get_or bytes s 0 ≡ 10 → ⊥)
    → (at < s) × (row_start (length bytes) (breaks_of bytes) (row_of (breaks_of bytes) s) ≡ at + 1)
row_start_found bytes s at le last uncut =
    let long : length (take s bytes) ≡ s = length-take s bytes ∙ omega arith in
    let lt : at < s = omega (arith, last.0.high, long) in
    let byte : (k : ℕ) → k < s → get_or (take s bytes) k 0 ≡ get_or bytes k 0 = λ k h. get_or-take s bytes k 0 h in
    let none : (k : ℕ) → at + 1 ≤ k → k < s → is_byte2 10 13 (get_or bytes k 0) ≡ true → ⊥ =
    λ k low high said. last.0.after k low (omega (arith, long)) (ap (is_byte2 10 13) (byte k high) ∙ said) in
    let here : is_byte2 10 13 (get_or bytes at 0) ≡ true = ap (is_byte2 10 13) (sym (byte at lt)) ∙ last.1 in
    let no_pair : get_or bytes at 0 ≡ 13 → get_or bytes (at + 1) 0 ≡ 10 → ⊥ =
    λ cr lf. ⊎_elim (λ more. none (at + 1) (omega arith) more (is_lf (get_or bytes (at + 1) 0) lf))
    (λ end. let same : at + 1 ≡ s = omega (arith, lt, end) in let before : s - 1 ≡ at = omega arith in uncut (omega arith) (ap (λ k. get_or bytes k 0) before ∙ cr) (ap (λ k. get_or bytes k 0) (sym same) ∙ lf))
    (cases_lt (at + 1) s) in
    let begins = row_after_end bytes at (omega (arith, lt, le)) (ends_at bytes at here no_pair) in
    let stays = row_stays bytes (at + 1) (s - (at + 1)) (λ k low high. ends_not bytes k (none k low (omega (arith, high, lt)))) in
    let end : at + 1 + (s - (at + 1)) ≡ s = omega (arith, lt) in
    let row : row_of (breaks_of bytes) s ≡ row_of (breaks_of bytes) at + 1 = ap (row_of (breaks_of bytes)) (sym end) ∙ stays ∙ begins.0 in
    (lt, ap (row_start (length bytes) (breaks_of bytes)) row ∙ begins.1)

-- and at 0, where there is none before it
pub row_start_none : (bytes : List ℕ) (s : ℕ) → s ≤ length bytes → IsLastByte (is_byte2 10 13) (take s bytes) None
    → row_start (length bytes) (breaks_of bytes) (row_of (breaks_of bytes) s) ≡ 0
row_start_none bytes s le none =
    let long : length (take s bytes) ≡ s = length-take s bytes ∙ omega arith in
    let none_there : (k : ℕ) → k < s → is_byte2 10 13 (get_or bytes k 0) ≡ true → ⊥ =
    λ k h said. none k (omega arith) (omega (arith, long)) (ap (is_byte2 10 13) (get_or-take s bytes k 0 h) ∙ said) in
    let stays = row_stays bytes 0 s (λ k low high. ends_not bytes k (none_there k (omega (arith, high)))) in
    let start : 0 + s ≡ s = omega arith in
    let row : row_of (breaks_of bytes) s ≡ 0 = ap (row_of (breaks_of bytes)) (sym start) ∙ stays ∙ rows_begin bytes in
    ap (row_start (length bytes) (breaks_of bytes)) row ∙ row_start_first (length bytes) (breaks_of bytes)

-- where an offset counts: at the CR of its CRLF, if it is the LF, and at itself else
pub record CountsAt (bytes : List ℕ) (o s : ℕ) : Type 0 where
  pub value : s ≡ settled (breaks_of bytes) o
  pub row : row_of (breaks_of bytes) s ≡ row_of (breaks_of bytes) o
  pub uncut : 0 < s → get_or bytes (s - 1) 0 ≡ 13 → get_or bytes s 0 ≡ 10 → ⊥

pub counts_at : (bytes : List ℕ) (o s : ℕ) → (0 < o → get_or bytes (o - 1) 0 ≡ 13 → get_or bytes o 0 ≡ 10 → s ≡ o - 1)
    → ((0 < o → get_or bytes (o - 1) 0 ≡ 13 → get_or bytes o 0 ≡ 10 → ⊥) → s ≡ o) → CountsAt bytes o s
counts_at bytes o s pair other =
    let as_it_is : (0 < o → get_or bytes (o - 1) 0 ≡ 13 → get_or bytes o 0 ≡ 10 → ⊥) → CountsAt bytes o s =
    λ none. let same = other none in record {
      value = same ∙ sym (settled_other bytes o none);
      row = ap (row_of (breaks_of bytes)) same;
      uncut = subst (λ k. 0 < k → get_or bytes (k - 1) 0 ≡ 13 → get_or bytes k 0 ≡ 10 → ⊥) (sym same) none;
    } in
    ⊎_elim
    (λ some. ⊎_elim
    (λ cr. ⊎_elim
    (λ lf.
    let same = pair some cr lf in
    let place : o - 1 + 1 ≡ o = omega (arith, some) in
    let in_text : o < length bytes = ⊎_elim (λ lt. lt) (λ ge. absurd (omega (arith, lf, get_or_past bytes o 0 ge))) (cases_lt o (length bytes)) in
    let said : ends_break bytes (o - 1) ≡ false = pair_says (get_or bytes (o - 1) 0) (get_or bytes (o - 1 + 1) 0) cr (ap (λ k. get_or bytes k 0) place ∙ lf) in record {
      value = same ∙ sym (settled_pair bytes o some in_text cr lf);
      row = ap (row_of (breaks_of bytes)) same ∙ sym (ap (row_of (breaks_of bytes)) (sym place) ∙ row_after_other bytes (o - 1) said);
      uncut = λ _ _ lf_there. omega (arith, cr, lf_there, ap (λ k. get_or bytes k 0) same);
    })
    (λ no_lf. as_it_is (λ _ _ lf. no_lf lf)) (number_cases (get_or bytes o 0) 10))
    (λ no_cr. as_it_is (λ _ cr _. no_cr cr)) (number_cases (get_or bytes (o - 1) 0) 13))
    (λ ge. as_it_is (λ some _ _. omega (arith, some, ge)))
    (cases_lt 0 o)

-- the column of an offset, from the last LF or CR before where it counts
pub column_found : (bytes : List ℕ) (o s at : ℕ) → o ≤ length bytes → s ≤ o → CountsAt bytes o s → IsLastByte (is_byte2 10 13) (take s bytes) (Some at) → s - (at + 1) ≡ byte_column (length bytes) (breaks_of bytes) o
unfolding byte_column
column_found bytes o s at le upto counts last =
    let found = row_start_found bytes s at (omega (arith, le, upto)) last counts.uncut in
    let start : row_start (length bytes) (breaks_of bytes) (row_of (breaks_of bytes) o) ≡ at + 1 = ap (row_start (length bytes) (breaks_of bytes)) (sym counts.row) ∙ found.1 in
    ap (λ k. k - (at + 1)) counts.value ∙ ap (λ k. settled (breaks_of bytes) o - k) (sym start)

pub column_none : (bytes : List ℕ) (o s : ℕ) → o ≤ length bytes → s ≤ o → CountsAt bytes o s → IsLastByte (is_byte2 10 13) (take s bytes) None → s ≡ byte_column (length bytes) (breaks_of bytes) o
unfolding byte_column
column_none bytes o s le upto counts none =
    let start : row_start (length bytes) (breaks_of bytes) (row_of (breaks_of bytes) o) ≡ 0 = ap (row_start (length bytes) (breaks_of bytes)) (sym counts.row) ∙ row_start_none bytes s (omega (arith, le, upto)) none in
    omega (arith, counts.value, start)
