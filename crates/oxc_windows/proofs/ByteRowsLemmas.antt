-- Rows by the bytes that end breaks, and where an offset counts.
use Rattle.std.proofs.Common.{◌≡◌, ℕ, zero, suc, ◌+◌, ◌-◌, ◌<◌, ◌≤◌, ◌⊎◌, ◌&&◌, ◌||◌, not, Bool, true, false, cond, List, length, get_or, Some, refl, sym, ap, subst, ◌∙◌, arith, eqb, ⊎_elim, inl, inr}
use Rattle.std.specs.List.{Contains}
use Rattle.std.proofs.lemmas.Bool.{cases_lt, false≢true}
use Rattle.std.proofs.lemmas.Bool.Decides.{nat_tests}
use Rattle.std.proofs.lemmas.List.Elements.{Contains-append_left, Contains-push}
use Rattle.oxc_windows.specs.declared.breaks.LineBreak.{LineBreak}
use Rattle.oxc_windows.specs.Breaks.{break_at, breaks_before, breaks_of, ends_break}
use Rattle.oxc_windows.specs.Rows.{row_of, row_start, settled}
use Rattle.oxc_windows.proofs.BreaksLemmas.{breaks_before_found, breaks_before_more, breaks_found, breaks_valid}
use Rattle.oxc_windows.proofs.RowsLemmas.{end_at_row, ends_before_row, ends_from_row, no_break, row_le, row_of_le, row_past_end, row_start_after, settled_at, settled_else}

-- a break that starts at a place before n is among those before n
found_in : (bytes : List ℕ) (n at : ℕ) (b : LineBreak) → break_at bytes at ≡ Some b → at < n → Contains (breaks_before bytes n) b
found_in bytes zero at b e lt = absurd (omega arith)
found_in bytes (suc n) at b e lt =
    let one_more : n + 1 ≡ suc n = omega arith in
    subst (λ m. Contains (breaks_before bytes m) b) one_more
    (⊎_elim
    (λ before. subst (λ l. Contains l b) (sym (breaks_before_more bytes n)) (Contains-append_left (breaks_before bytes n) _ b (found_in bytes n at b e before)))
    (λ from.
    let same : at ≡ n = omega arith in
    subst (λ l. Contains l b) (sym (breaks_before_found bytes n b (subst (λ k. break_at bytes k ≡ Some b) same e))) (Contains-push (breaks_before bytes n) b))
    (cases_lt at n))

listed : (bytes : List ℕ) (at : ℕ) (b : LineBreak) → break_at bytes at ≡ Some b → at < length bytes → Contains (breaks_of bytes) b
unfolding breaks_of
listed bytes at b e lt = found_in bytes (length bytes) at b e lt

-- the last byte of a break says that it is one
pub break_says : (bytes : List ℕ) (b : LineBreak) → break_at bytes b.start ≡ Some b → ends_break bytes b.end ≡ true
break_says bytes b e = grind (arith, nat_tests)

-- a byte that ends a break ends one that starts there or one byte before
lf_alone : (bytes : List ℕ) (at : ℕ) → get_or bytes at 0 ≡ 10 → (get_or bytes (at - 1) 0 ≡ 13 → ⊥) → break_at bytes at ≡ Some (record { start = at; end = at })
lf_alone bytes at lf other = grind (arith, nat_tests)

pair_there : (bytes : List ℕ) (at : ℕ) → get_or bytes at 0 ≡ 13 → get_or bytes (at + 1) 0 ≡ 10 → break_at bytes at ≡ Some (record { start = at; end = at + 1 })
pair_there bytes at cr lf = grind (arith, nat_tests)

cr_alone : (bytes : List ℕ) (at : ℕ) → get_or bytes at 0 ≡ 13 → (get_or bytes (at + 1) 0 ≡ 10 → ⊥) → break_at bytes at ≡ Some (record { start = at; end = at })
cr_alone bytes at cr other = grind (arith, nat_tests)

pub test_says : (a b : ℕ) → (eqb a 10 || eqb a 13 && not (eqb b 10)) ≡ true → (a ≡ 10) ⊎ ((a ≡ 13) × (b ≡ 10 → ⊥))
test_says a b e = grind (arith, nat_tests)

pub number_cases : (a b : ℕ) → (a ≡ b) ⊎ (a ≡ b → ⊥)
number_cases a b =
    ⊎_elim (λ lt. inr (λ e. omega arith)) (λ ge. ⊎_elim (λ gt. inr (λ e. omega arith)) (λ le. inl (omega arith)) (cases_lt b a)) (cases_lt a b)

-- a CRLF is listed
pair_listed : (bytes : List ℕ) (at : ℕ) → 0 < at → at < length bytes → get_or bytes (at - 1) 0 ≡ 13 → get_or bytes at 0 ≡ 10
    → Contains (breaks_of bytes) (record { start = at - 1; end = at })
pair_listed bytes at some lt cr lf =
    let place : at - 1 + 1 ≡ at = omega arith in
    let next : get_or bytes (at - 1 + 1) 0 ≡ 10 = ap (λ k. get_or bytes k 0) place ∙ lf in
    let found = pair_there bytes (at - 1) cr next in
    listed bytes (at - 1) (record { start = at - 1; end = at }) (found ∙ ap (λ k. Some (record { start = at - 1; end = k })) place) (omega arith)

-- what a break that ends at a place is among the breaks
pub record EndsAt (bytes : List ℕ) (at : ℕ) : Type 0 where
  pub break : LineBreak
  pub listed : Contains (breaks_of bytes) break
  pub end : break.end ≡ at

pub said_break : (bytes : List ℕ) (at : ℕ) → at < length bytes → ends_break bytes at ≡ true → EndsAt bytes at
said_break bytes at lt said =
    ⊎_elim
    (λ lf. ⊎_elim
    (λ cr. ⊎_elim
    (λ some. record { break = record { start = at - 1; end = at }; listed = pair_listed bytes at some lt cr lf; end = refl })
    (λ none. let same : at - 1 ≡ at = omega arith in absurd (omega (arith, ap (λ k. get_or bytes k 0) same, cr, lf)))
    (cases_lt 0 at))
    (λ other. record { break = record { start = at; end = at }; listed = listed bytes at _ (lf_alone bytes at lf other) lt; end = refl })
    (number_cases (get_or bytes (at - 1) 0) 13))
    (λ cr. record { break = record { start = at; end = at }; listed = listed bytes at _ (cr_alone bytes at cr.0 cr.1) lt; end = refl })
    (test_says (get_or bytes at 0) (get_or bytes (at + 1) 0) said)

-- past a byte that ends a break the next row begins
pub row_after_end : (bytes : List ℕ) (at : ℕ) → at < length bytes → ends_break bytes at ≡ true
    → (row_of (breaks_of bytes) (at + 1) ≡ row_of (breaks_of bytes) at + 1) × (row_start (length bytes) (breaks_of bytes) (row_of (breaks_of bytes) at + 1) ≡ at + 1)
row_after_end bytes at lt said =
    let list = breaks_of bytes in
    let ok = (breaks_valid bytes).ordered in
    let found = said_break bytes at lt said in
    let k = found.listed.0 in
    let inside = found.listed.1 in
    let ends : (get_or list k found.break).end ≡ at = ap (λ b. b.end) found.listed.2 ∙ found.end in
    let place : k ≡ row_of list at = end_at_row list at k found.break ok inside ends in
    let next = row_past_end list k found.break ok inside in
    let starts : row_start (length bytes) list (suc k) ≡ (get_or list k found.break).end + 1 = row_start_after (length bytes) list k found.break inside in
    let one_more : suc k ≡ row_of list at + 1 = omega arith in (
      ap (λ o. row_of list (o + 1)) (sym ends) ∙ next ∙ ap (λ r. r + 1) place,
      sym (ap (row_start (length bytes) list) one_more) ∙ starts ∙ ap (λ o. o + 1) ends,
    )

-- past another byte the row goes on
pub row_after_other : (bytes : List ℕ) (at : ℕ) → ends_break bytes at ≡ false → row_of (breaks_of bytes) (at + 1) ≡ row_of (breaks_of bytes) at
row_after_other bytes at said =
    let list = breaks_of bytes in
    let ok = (breaks_valid bytes).ordered in
    let r = row_of list at in
    let s = row_of list (at + 1) in
    let low : r ≤ s = ⊎_elim (λ lt. absurd (omega (arith, ends_before_row list at ok s no_break lt, ends_from_row list (at + 1) ok s no_break (omega arith) (omega (arith, lt, row_le list at))))) (λ ge. ge) (cases_lt s r) in
    let high : s ≤ r =
    ⊎_elim
    (λ lt.
    let inside : r < length list = omega (arith, lt, row_le list (at + 1)) in
    let end : (get_or list r no_break).end ≡ at = omega (arith, ends_before_row list (at + 1) ok r no_break lt, ends_from_row list at ok r no_break (omega arith) inside) in
    absurd (false≢true (sym said ∙ sym (ap (ends_break bytes) end) ∙ break_says bytes (get_or list r no_break) (breaks_found bytes r no_break inside).0)))
    (λ le. le) (cases_lt r s) in
    omega (arith, low, high)

-- the first place is in the first row
pub rows_begin : (bytes : List ℕ) → row_of (breaks_of bytes) 0 ≡ 0
rows_begin bytes = omega (arith, row_of_le (breaks_of bytes) 0 (breaks_valid bytes).ordered)

-- one place further, by what the byte there says
pub row_next : (bytes : List ℕ) (at : ℕ) → at < length bytes → (ends : Bool) → ends_break bytes at ≡ ends → row_of (breaks_of bytes) (at + 1) ≡ row_of (breaks_of bytes) at + cond ends 1 0
row_next bytes at lt true e = (row_after_end bytes at lt e).0
row_next bytes at lt false e = omega (arith, row_after_other bytes at e)

-- where an offset counts, by the bytes
pub settled_pair : (bytes : List ℕ) (at : ℕ) → 0 < at → at < length bytes → get_or bytes (at - 1) 0 ≡ 13 → get_or bytes at 0 ≡ 10 → settled (breaks_of bytes) at ≡ at - 1
settled_pair bytes at some lt cr lf =
    let list = breaks_of bytes in
    let ok = (breaks_valid bytes).ordered in
    let found = pair_listed bytes at some lt cr lf in
    let b : LineBreak = record { start = at - 1; end = at } in
    let place = end_at_row list at found.0 b ok found.1 (ap (λ c. c.end) found.2) in
    let there : get_or list (row_of list at) b ≡ b = ap (λ k. get_or list k b) (sym place) ∙ found.2 in
    let inside : row_of list at < length list = omega (arith, found.1) in
    settled_at list at b ok inside (ap (λ c. c.end) there) ∙ ap (λ c. c.start) there

pair_said : (bytes : List ℕ) (b : LineBreak) (at : ℕ) → break_at bytes b.start ≡ Some b → b.end ≡ at → b.start < at
    → (0 < at) × (get_or bytes (at - 1) 0 ≡ 13) × (get_or bytes at 0 ≡ 10)
pair_said bytes b at e end lt = grind (arith, nat_tests)

pub settled_other : (bytes : List ℕ) (at : ℕ) → (0 < at → get_or bytes (at - 1) 0 ≡ 13 → get_or bytes at 0 ≡ 10 → ⊥) → settled (breaks_of bytes) at ≡ at
settled_other bytes at none =
    let list = breaks_of bytes in
    let ok = (breaks_valid bytes).ordered in
    let r = row_of list at in
    ⊎_elim
    (λ inside. ⊎_elim
    (λ end. settled_at list at no_break ok inside end
    ∙ ⊎_elim
    (λ lt. let said = pair_said bytes (get_or list r no_break) at (breaks_found bytes r no_break inside).0 end lt in absurd (none said.0 said.1 said.2))
    (λ ge. omega (arith, ge, end, (ok.shape r no_break inside).0))
    (cases_lt (get_or list r no_break).start at))
    (λ other. settled_else list at no_break ok (λ h. other))
    (number_cases (get_or list r no_break).end at))
    (λ past. settled_else list at no_break ok (λ h end. omega (arith, h, past)))
    (cases_lt r (length list))

-- no CRLF stands across the start of a row
pub uncut : (source : List ℕ) (begin line : ℕ) → begin ≡ row_start (length source) (breaks_of source) line → line ≡ row_of (breaks_of source) begin → 0 < begin → begin < length source
    → get_or source (begin - 1) 0 ≡ 13 → get_or source begin 0 ≡ 10 → ⊥
unfolding row_start
uncut source begin zero starts counts some lt cr lf = omega (arith, starts, some)
uncut source begin (suc k) starts counts some lt cr lf =
    let list = breaks_of source in
    let ok = (breaks_valid source).ordered in
    let found = pair_listed source begin some lt cr lf in
    let b : LineBreak = record { start = begin - 1; end = begin } in
    let place : found.0 ≡ suc k = end_at_row list begin found.0 b ok found.1 (ap (λ c. c.end) found.2) ∙ sym counts in
    let inside : suc k < length list = omega (arith, place, found.1) in
    let there : (get_or list (suc k) b).start ≡ begin - 1 = ap (λ j. (get_or list j b).start) (sym place) ∙ ap (λ c. c.start) found.2 in
    omega (arith, starts, row_start_after (length source) list k b (omega (arith, inside)), ok.apart k (suc k) b (omega arith) inside, there, some)
