-- Where CR stands only before LF, the drawn rows are rows of the source, each drawn once.
use Rattle.std.proofs.Common.{◌≡◌, ℕ, zero, suc, ◌+◌, ◌-◌, ◌<◌, ◌≤◌, ◌&&◌, ◌||◌, not, Bool, true, false, eqb, cond, List, ◌∷◌, length, get_or, min, take, drop, slice_range, refl, sym, ap, subst, ◌∙◌, arith, ⊎_elim, All}
use Rattle.std.proofs.lemmas.Bool.{cases_lt}
use Rattle.std.proofs.lemmas.Bool.Decides.{nat_tests}
use Rattle.std.proofs.lemmas.List.{get_or_past, get_or_default, length-take, length-drop, take-take, drop-take, drop-drop}
use Rattle.std.proofs.lemmas.List.Elements.{All-cons, All-nil}
use Rattle.std.proofs.lemmas.List.Sums.{position_or_len_is}
use Rattle.oxc_windows.specs.Breaks.{breaks_of, ends_break}
use Rattle.oxc_windows.specs.Rows.{row_start}
use Rattle.oxc_windows.proofs.BreaksLemmas.{breaks_found, breaks_valid, rising_ends}
use Rattle.oxc_windows.proofs.ByteRowsLemmas.{break_says, number_cases, said_break, test_says}
use Rattle.oxc_windows.proofs.ListLemmas.{byte_at}
use Rattle.oxc_windows.proofs.RowsLemmas.{end_at_row, no_break, row_start_after, row_start_past, row_start_le_settled}
use Rattle.oxc_windows.proofs.WindowLemmas.{row_start_mono, row_start_within}
use Rattle.oxc_plan.specs.Laws.{HasPairedCrs, source_row}
use Rattle.oxc_plan.specs.Rows.{RowView, first_len, numbered, pieces, row_of_piece, row_text}
use Rattle.oxc_plan.proofs.RowsLemmas.{first_len_bounds, pieces_first, rows_none}

lf_said : (a b : ℕ) → a ≡ 10 → (eqb a 10 || eqb a 13 && not (eqb b 10)) ≡ true
lf_said a b lf = grind (arith, nat_tests)

not_lf : (a : ℕ) → (a ≡ 10 → ⊥) → eqb a 10 ≡ false
not_lf a other = grind (arith, nat_tests)

not_cr : (a : ℕ) → (a ≡ 13 → ⊥) → eqb a 13 ≡ false
not_cr a other = grind (arith, nat_tests)

-- a row begins no later than its break ends
row_start_upto : (source : List ℕ) (r : ℕ) → r < length (breaks_of source) → row_start (length source) (breaks_of source) r ≤ (get_or (breaks_of source) r no_break).end
row_start_upto source r inside =
    let list = breaks_of source in
    let ok = (breaks_valid source).ordered in
    let b = get_or list r no_break in
    omega (arith, row_start_le_settled (length source) list b.end r no_break ok (end_at_row list b.end r no_break ok inside refl) inside, (ok.shape r no_break inside).0)

-- the last byte of each break is an LF
lf_at_end : (source : List ℕ) → HasPairedCrs source → (k : ℕ) → k < length (breaks_of source) → get_or source (get_or (breaks_of source) k no_break).end 0 ≡ 10
lf_at_end source paired k lt =
    let b = get_or (breaks_of source) k no_break in
    ⊎_elim (λ lf. lf) (λ cr. absurd (cr.1 (paired b.end cr.0)))
    (test_says (get_or source b.end 0) (get_or source (b.end + 1) 0) (break_says source b (breaks_found source k no_break lt).0))

-- no other byte of a row is one
lf_ends_row : (source : List ℕ) (r at : ℕ) → at < length source → row_start (length source) (breaks_of source) r ≤ at → get_or source at 0 ≡ 10
    → (r < length (breaks_of source)) × ((get_or (breaks_of source) r no_break).end ≤ at)
unfolding row_start
lf_ends_row source r at inside from lf =
    let len = length source in
    let list = breaks_of source in
    let ok = (breaks_valid source).ordered in
    let said : ends_break source at ≡ true = lf_said (get_or source at 0) (get_or source (at + 1) 0) lf in
    let found = said_break source at inside said in
    let j = found.listed.0 in
    let j_lt = found.listed.1 in
    let ends : (get_or list j no_break).end ≡ at = ap (λ b. b.end) (get_or_default list j no_break found.break j_lt ∙ found.listed.2) ∙ found.end in
    let starts : row_start len list (suc j) ≡ at + 1 = row_start_after len list j no_break j_lt ∙ ap (λ n. n + 1) ends in
    let low : r ≤ j =
    ⊎_elim (λ lt. absurd (omega (arith, starts, from, row_start_mono len list (suc j) r (breaks_valid source) lt))) (λ ge. ge) (cases_lt j r) in
    (omega (arith, low, j_lt), omega (arith, ends, rising_ends list ok r j no_break low j_lt))

-- the first piece of bytes from the start of a row on is that row
first_len_is : (source : List ℕ) → HasPairedCrs source → (r q : ℕ) → row_start (length source) (breaks_of source) r < row_start (length source) (breaks_of source) q
    → first_len (slice_range source (row_start (length source) (breaks_of source) r) (row_start (length source) (breaks_of source) q))
    ≡ row_start (length source) (breaks_of source) (r + 1) - row_start (length source) (breaks_of source) r
first_len_is source paired r q lt =
    let len = length source in
    let list = breaks_of source in
    let valid = breaks_valid source in
    let a = row_start len list r in
    let e = row_start len list q in
    let bytes = slice_range source a e in
    let p : ℕ → Bool = λ b. eqb b 10 in
    let high : e ≤ len = row_start_within len list q valid in
    let size : length bytes ≡ e - a = length-take (e - a) (drop a source) ∙ ap (min (e - a)) (length-drop a source) ∙ omega (arith, high) in
    let later : r + 1 ≤ q = ⊎_elim (λ h. omega (arith, h)) (λ ge. absurd (omega (arith, lt, row_start_mono len list q r valid ge))) (cases_lt r q) in
    let next = row_start_mono len list (r + 1) q valid later in
    let one_more : suc r ≡ r + 1 = omega arith in
    ⊎_elim
    (λ inside.
    let b = get_or list r no_break in
    let starts : row_start len list (r + 1) ≡ b.end + 1 = subst (λ k. row_start len list k ≡ b.end + 1) one_more (row_start_after len list r no_break inside) in
    let from : a ≤ b.end = row_start_upto source r inside in
    let place = position_or_len_is p bytes (b.end - a) 0 (omega (arith, size, starts, next))
    (λ k k_lt.
    ⊎_elim
    (λ lf. absurd (omega (arith, k_lt, (lf_ends_row source r (a + k) (omega (arith, k_lt, starts, next, high)) (omega arith) lf).1)))
    (λ other. ap p (byte_at source a e k (omega (arith, k_lt, starts, next))) ∙ not_lf (get_or source (a + k) 0) other)
    (number_cases (get_or source (a + k) 0) 10))
    (λ _. ap p (byte_at source a e (b.end - a) (omega (arith, starts, next, from)) ∙ ap (λ k. get_or source k 0) (omega (arith, from)) ∙ lf_at_end source paired r inside)) in
    omega (arith, place, size, starts, next, from))
    (λ past.
    let starts : row_start len list (r + 1) ≡ len = row_start_past len list (r + 1) (omega (arith, past)) in
    let place = position_or_len_is p bytes (length bytes) 0 (omega arith)
    (λ k k_lt.
    ⊎_elim
    (λ lf. absurd (omega (arith, past, (lf_ends_row source r (a + k) (omega (arith, k_lt, size, high)) (omega arith) lf).0)))
    (λ other. ap p (byte_at source a e k (omega (arith, k_lt, size))) ∙ not_lf (get_or source (a + k) 0) other)
    (number_cases (get_or source (a + k) 0) 10))
    (λ k_lt. absurd (omega (arith, k_lt))) in
    omega (arith, place, size, starts, next, high))
    (cases_lt r (length list))

-- no row ends in a stray CR
no_cr_last : (source : List ℕ) → HasPairedCrs source → (r : ℕ) → row_start (length source) (breaks_of source) r < row_start (length source) (breaks_of source) (r + 1)
    → get_or source (row_start (length source) (breaks_of source) (r + 1) - 1) 0 ≡ 13 → ⊥
no_cr_last source paired r some cr =
    let len = length source in
    let list = breaks_of source in
    let z = row_start len list (r + 1) in
    let one_more : suc r ≡ r + 1 = omega arith in
    ⊎_elim
    (λ inside.
    let starts : z ≡ (get_or list r no_break).end + 1 = subst (λ k. row_start len list k ≡ (get_or list r no_break).end + 1) one_more (row_start_after len list r no_break inside) in
    let place : z - 1 ≡ (get_or list r no_break).end = omega (arith, starts) in
    omega (arith, ap (λ k. get_or source k 0) place, cr, lf_at_end source paired r inside))
    (λ past.
    let starts : z ≡ len = row_start_past len list (r + 1) (omega (arith, past)) in
    let place : z - 1 + 1 ≡ z = omega (arith, some) in
    omega (arith, paired (z - 1) cr, ap (λ k. get_or source k 0) place, get_or_past source z 0 (omega (arith, starts))))
    (cases_lt r (length list))

-- the row of a piece that is a row of the source
row_is : (source : List ℕ) → HasPairedCrs source → (r : ℕ) → row_start (length source) (breaks_of source) r < row_start (length source) (breaks_of source) (r + 1)
    → row_of_piece r (row_start (length source) (breaks_of source) r) (slice_range source (row_start (length source) (breaks_of source) r) (row_start (length source) (breaks_of source) (r + 1))) ≡ source_row source r
row_is source paired r some =
    let len = length source in
    let list = breaks_of source in
    let a = row_start len list r in
    let z = row_start len list (r + 1) in
    let piece = slice_range source a z in
    let high : z ≤ len = row_start_within len list (r + 1) (breaks_valid source) in
    let size : length piece ≡ z - a = length-take (z - a) (drop a source) ∙ ap (min (z - a)) (length-drop a source) ∙ omega (arith, high) in
    let last : get_or piece (length piece - 1) 0 ≡ get_or source (z - 1) 0 =
    byte_at source a z (length piece - 1) (omega (arith, size, some)) ∙ ap (λ k. get_or source k 0) (omega (arith, size, some)) in
    let whole : eqb (get_or piece (length piece - 1) 0) 13 ≡ false = ap (λ b. eqb b 13) last ∙ not_cr (get_or source (z - 1) 0) (no_cr_last source paired r some) in
    let number : (cond (eqb (get_or piece (length piece - 1) 0) 13) r (r + 1)) ≡ r + 1 = rw whole refl in
    λ i. record { number = number i; offset = a; length = size i; text = row_text piece }

-- a row that is one of the source, with some byte
pub record IsSourceRow (source : List ℕ) (row : RowView) : Type 0 where
  pub at : ℕ
  pub is : row ≡ source_row source at
  pub some : 0 < row.length

rows_empty : (source : List ℕ) (r q : ℕ) → row_start (length source) (breaks_of source) q ≤ row_start (length source) (breaks_of source) r
    → All (IsSourceRow source) (numbered r (row_start (length source) (breaks_of source) r) (pieces (slice_range source (row_start (length source) (breaks_of source) r) (row_start (length source) (breaks_of source) q))))
rows_empty source r q le =
    let a = row_start (length source) (breaks_of source) r in
    let e = row_start (length source) (breaks_of source) q in
    let none : length (slice_range source a e) ≡ 0 = length-take (e - a) (drop a source) ∙ omega (arith, le) in
    subst (All (IsSourceRow source)) (sym (rows_none r a (slice_range source a e) none)) (All-nil (IsSourceRow source))

rows_next : (source : List ℕ) → HasPairedCrs source → (r q : ℕ) → row_start (length source) (breaks_of source) r < row_start (length source) (breaks_of source) q
    → numbered r (row_start (length source) (breaks_of source) r) (pieces (slice_range source (row_start (length source) (breaks_of source) r) (row_start (length source) (breaks_of source) q)))
    ≡ source_row source r ∷ numbered (r + 1) (row_start (length source) (breaks_of source) (r + 1)) (pieces (slice_range source (row_start (length source) (breaks_of source) (r + 1)) (row_start (length source) (breaks_of source) q)))
unfolding numbered
rows_next source paired r q lt =
    let len = length source in
    let list = breaks_of source in
    let valid = breaks_valid source in
    let a = row_start len list r in
    let z = row_start len list (r + 1) in
    let e = row_start len list q in
    let bytes = slice_range source a e in
    let high : e ≤ len = row_start_within len list q valid in
    let size : length bytes ≡ e - a = length-take (e - a) (drop a source) ∙ ap (min (e - a)) (length-drop a source) ∙ omega (arith, high) in
    let later : r + 1 ≤ q = ⊎_elim (λ h. omega (arith, h)) (λ ge. absurd (omega (arith, lt, row_start_mono len list q r valid ge))) (cases_lt r q) in
    let next : z ≤ e = row_start_mono len list (r + 1) q valid later in
    let some : 0 < length bytes = omega (arith, size, lt) in
    let n = first_len bytes in
    let first : n ≡ z - a = first_len_is source paired r q lt in
    let bounds = first_len_bounds bytes some in
    let piece : take n bytes ≡ slice_range source a z = take-take n (e - a) (drop a source) (omega (arith, bounds.1, size)) ∙ ap (λ m. take m (drop a source)) first in
    let parts : e - a ≡ n + (e - z) = omega (arith, first, bounds.0, next, lt) in
    let rest : drop n bytes ≡ slice_range source z e =
    ap (λ m. drop n (take m (drop a source))) parts ∙ drop-take n (e - z) (drop a source) ∙ ap (take (e - z)) (drop-drop n a source ∙ ap (λ m. drop m source) (omega (arith, first, bounds.0))) in
    let long : length (slice_range source a z) ≡ z - a = length-take (z - a) (drop a source) ∙ ap (min (z - a)) (length-drop a source) ∙ omega (arith, high, next) in
    let place : a + length (slice_range source a z) ≡ z = omega (arith, long, first, bounds.0) in
    ap (numbered r a) (pieces_first bytes some)
    ∙ ap (λ p. row_of_piece r a p ∷ numbered (r + 1) (a + length p) (pieces (drop n bytes))) piece
    ∙ ap (λ l. row_of_piece r a (slice_range source a z) ∷ numbered (r + 1) (a + length (slice_range source a z)) (pieces l)) rest
    ∙ ap (λ o. row_of_piece r a (slice_range source a z) ∷ numbered (r + 1) o (pieces (slice_range source z e))) place
    ∙ ap (λ row. row ∷ numbered (r + 1) z (pieces (slice_range source z e))) (row_is source paired r (omega (arith, first, bounds.0)))

pub rows_are : (source : List ℕ) → HasPairedCrs source → (fuel r q : ℕ) → q ≤ r + fuel
    → All (IsSourceRow source) (numbered r (row_start (length source) (breaks_of source) r) (pieces (slice_range source (row_start (length source) (breaks_of source) r) (row_start (length source) (breaks_of source) q))))
rows_are source paired zero r q le = rows_empty source r q (row_start_mono (length source) (breaks_of source) q r (breaks_valid source) (omega (arith, le)))
rows_are source paired (suc fuel) r q le =
    let a = row_start (length source) (breaks_of source) r in
    let z = row_start (length source) (breaks_of source) (r + 1) in
    let e = row_start (length source) (breaks_of source) q in
    ⊎_elim
    (λ lt.
    let size : length (slice_range source a e) ≡ e - a = length-take (e - a) (drop a source) ∙ ap (min (e - a)) (length-drop a source) ∙ omega (arith, row_start_within (length source) (breaks_of source) q (breaks_valid source)) in
    let first = first_len_is source paired r q lt in
    let some = (first_len_bounds (slice_range source a e) (omega (arith, size, lt))).0 in
    subst (All (IsSourceRow source)) (sym (rows_next source paired r q lt))
    (All-cons (IsSourceRow source) (source_row source r) (numbered (r + 1) z (pieces (slice_range source z e)))
    (record { at = r; is = refl; some = omega (arith, first, some) })
    (rows_are source paired fuel (r + 1) q (omega (arith, le)))))
    (λ ge. rows_empty source r q ge)
    (cases_lt a e)
