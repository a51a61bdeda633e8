-- Breaks of bytes, found by LF and CR.
use Rattle.std.proofs.Common.{cond, count_by, eqb, not, ⊎_elim, ap, ◌≡◌, ℕ, ◌+◌, ◌-◌, ◌<◌, ◌≤◌, ◌&&◌, Bool, true, false, List, [], ◌∷◌, length, take, drop, get_or, slice_range, Option, Some, None, refl, sym, subst, ◌∙◌, arith, zero, suc, if◌then◌else◌}
use Rattle.std.specs.List.{cons_option, filter, filter_map, list_any, range_with_len}
use Rattle.std.proofs.lemmas.Bool.{cases_lt, eqb-true, false≢true, eq-eqb}
use Rattle.std.proofs.lemmas.Bool.Decides.{nat_tests}
use Rattle.std.proofs.lemmas.List.{get_or-take, length-take-le, length-drop}
use Rattle.std.proofs.lemmas.List.Folds.{list_any_at}
use Rattle.std.proofs.Math.Seq.{drop-cons}
use Rattle.memchr.specs.Find.{Nowhere, Passes, is_byte, is_byte2, places, places_from}
use Rattle.oxc_windows.specs.declared.breaks.LineBreak.{LineBreak}
use Rattle.oxc_windows.specs.Breaks.{break_at, breaks_before, breaks_of}
use Rattle.oxc_windows.specs.Rows.{row_of, is_second_byte}
use Rattle.oxc_windows.specs.Source.{first_between, is_before_no_lf, last_before}
use Rattle.oxc_windows.specs.Valid.{breaks_before_none}
use Rattle.oxc_windows.proofs.Counting.{false_unless}
use Rattle.oxc_windows.proofs.ListLemmas.{count_cons, part_at}
use Rattle.oxc_windows.proofs.PlacesLemmas.{none_elsewhere}
use Rattle.oxc_windows.proofs.SearchLemmas.{counted_upto, ends_before, found_first, inside_some, last_found, last_missed, none_after, none_before, none_more}

-- no LF or CR from one place to before another
abbrev IsBare : List ℕ → ℕ → ℕ → Type 0
IsBare bytes from to = (k : ℕ) → from ≤ k → k < to → is_byte2 10 13 (get_or bytes k 0) ≡ true → ⊥

bare_none : (bytes : List ℕ) (from to k : ℕ) → IsBare bytes from to → from ≤ k → k < to → break_at bytes k ≡ None
bare_none bytes from to k bare low high = none_elsewhere bytes k (false_unless (is_byte2 10 13 (get_or bytes k 0)) (bare k low high))

-- what a search of a part says of the whole
bare_part : (bytes : List ℕ) (from to upto : ℕ) → from + upto ≤ to → Nowhere (Passes (is_byte2 10 13) (slice_range bytes from to)) 0 upto → IsBare bytes from (from + upto)
bare_part bytes from to upto fits nowhere = λ k low high passes.
    nowhere (k - from) (omega arith) (omega (arith, low, high)) (ap (is_byte2 10 13) (part_at bytes from to k low (omega (arith, high, fits))) ∙ passes)

none_upto : (bytes : List ℕ) (from to n : ℕ) → IsBare bytes from (from + n) → first_between (breaks_before bytes (from + n)) from to ≡ None
none_upto bytes from to zero bare = let same : from ≡ from + 0 = omega arith in subst (λ k. first_between (breaks_before bytes k) from to ≡ None) same (none_before bytes from to)
none_upto bytes from to (suc n) bare =
    let next : from + n + 1 ≡ from + suc n = omega arith in
    subst (λ k. first_between (breaks_before bytes k) from to ≡ None) next
    (none_more bytes from to (from + n) (bare_none bytes from (from + suc n) (from + n) bare (omega arith) (omega arith))
    (none_upto bytes from to n (λ k low high. bare k low (omega (arith, high)))))

same_upto : (bytes : List ℕ) (from n : ℕ) → IsBare bytes from (from + n) → breaks_before bytes from ≡ breaks_before bytes (from + n)
same_upto bytes from zero bare = let same : from ≡ from + 0 = omega arith in ap (breaks_before bytes) same
same_upto bytes from (suc n) bare =
    let next : from + n + 1 ≡ from + suc n = omega arith in
    same_upto bytes from n (λ k low high. bare k low (omega (arith, high)))
    ∙ sym (breaks_before_none bytes (from + n) (bare_none bytes from (from + suc n) (from + n) bare (omega arith) (omega arith)))
    ∙ ap (breaks_before bytes) next

-- an LF or CR at which no break starts is the LF of a CRLF
pair_of : (bytes : List ℕ) (at : ℕ) → is_byte2 10 13 (get_or bytes at 0) ≡ true → break_at bytes at ≡ None → (get_or bytes (at - 1) 0 ≡ 13) × (get_or bytes at 0 ≡ 10)
pair_of bytes at passes none = grind (arith, nat_tests)

pair_low : (bytes : List ℕ) (at : ℕ) → get_or bytes (at - 1) 0 ≡ 13 → get_or bytes at 0 ≡ 10 → 0 < at
pair_low bytes zero cr lf = absurd (omega (arith, cr, lf))
pair_low bytes (suc at) cr lf = omega arith

pair_break : (bytes : List ℕ) (at : ℕ) → get_or bytes (at - 1) 0 ≡ 13 → get_or bytes (at - 1 + 1) 0 ≡ 10 → break_at bytes (at - 1) ≡ Some (record { start = at - 1; end = at - 1 + 1 })
pair_break bytes at cr lf = grind (arith, nat_tests)

pair_starts : (bytes : List ℕ) (at : ℕ) → get_or bytes (at - 1) 0 ≡ 13 → get_or bytes at 0 ≡ 10 → break_at bytes (at - 1) ≡ Some (record { start = at - 1; end = at - 1 + 1 })
pair_starts bytes at cr lf =
    let place : at ≡ at - 1 + 1 = omega (arith, pair_low bytes at cr lf) in
    pair_break bytes at cr (subst (λ k. get_or bytes k 0 ≡ 10) place lf)

pair_second : (bytes : List ℕ) (at : ℕ) → get_or bytes (at - 1) 0 ≡ 13 → get_or bytes at 0 ≡ 10 → at ≤ length bytes → is_second_byte (breaks_of bytes) at ≡ true
pair_second bytes at cr lf le =
    let low = pair_low bytes at cr lf in
    sym (inside_some bytes at (record { start = at - 1; end = at - 1 + 1 }) (pair_starts bytes at cr lf) low le) ∙ eq-eqb (at - 1 + 1) at (omega (arith, low))

pub part_long : (bytes : List ℕ) (from to : ℕ) → to ≤ length bytes → length (slice_range bytes from to) ≡ to - from
part_long bytes from to within = length-take-le (to - from) (drop from bytes) (omega (arith, length-drop from bytes, within))

-- what the first of the places says
pub places_none : (test : ℕ → Bool) (hay : List ℕ) (i n : ℕ) → places_from test hay i n ≡ [] → Nowhere (Passes test hay) i (i + n)
unfolding places_from
places_none test hay i zero e = λ k low high passes. omega (arith, low, high)
places_none test hay i (suc n) e = by_case (places_none test hay (i + 1) n) (test (get_or hay i 0)) refl e
  where
    by_case : (places_from test hay (i + 1) n ≡ [] → Nowhere (Passes test hay) (i + 1) (i + 1 + n)) → (said : Bool) → test (get_or hay i 0) ≡ said → (if said then i ∷ places_from test hay (i + 1) n else places_from test hay (i + 1) n) ≡ [] → Nowhere (Passes test hay) i (i + suc n)
    by_case rest true s f = let no_way : i ∷ places_from test hay (i + 1) n ≡ [] = f in cc
    by_case rest false s f = λ k low high passes.
        ⊎_elim (λ lt. rest f k (omega (arith, lt)) (omega (arith, high)) passes)
        (λ ge. let same : k ≡ i = omega (arith, low, ge) in false≢true (sym s ∙ subst (λ j. test (get_or hay j 0) ≡ true) same passes))
        (cases_lt i k)

pub record IsFirstPlace (test : ℕ → Bool) (hay : List ℕ) (from to place : ℕ) : Type 0 where
  pub low : from ≤ place
  pub high : place < to
  pub before : Nowhere (Passes test hay) from place
  pub here : Passes test hay place

pub places_first : (test : ℕ → Bool) (hay : List ℕ) (i n place : ℕ) (more : List ℕ) → places_from test hay i n ≡ place ∷ more → IsFirstPlace test hay i (i + n) place
unfolding places_from
places_first test hay i zero place more e = let no_way : [] ≡ place ∷ more = e in cc
places_first test hay i (suc n) place more e = by_case (places_first test hay (i + 1) n place more) (test (get_or hay i 0)) refl e
  where
    by_case : (places_from test hay (i + 1) n ≡ place ∷ more → IsFirstPlace test hay (i + 1) (i + 1 + n) place) → (said : Bool) → test (get_or hay i 0) ≡ said → (if said then i ∷ places_from test hay (i + 1) n else places_from test hay (i + 1) n) ≡ place ∷ more → IsFirstPlace test hay i (i + suc n) place
    by_case rest true s f =
        let both : i ∷ places_from test hay (i + 1) n ≡ place ∷ more = f in
        let same : i ≡ place = cc in
        record {
          low = omega (arith, same);
          high = omega (arith, same);
          before = λ k low high passes. omega (arith, low, high, same);
          here = subst (λ j. test (get_or hay j 0) ≡ true) same s;
        }
    by_case rest false s f =
        let later = rest f in
        record {
          low = omega (arith, later.low);
          high = omega (arith, later.high);
          before = λ k low high passes.
              ⊎_elim (λ lt. later.before k (omega (arith, lt)) high passes)
              (λ ge. let same : k ≡ i = omega (arith, low, ge) in false≢true (sym s ∙ subst (λ j. test (get_or hay j 0) ≡ true) same passes))
              (cases_lt i k);
          here = later.here;
        }

-- the search forward
pub first_none : (bytes : List ℕ) (from to len : ℕ) → from ≤ to → to ≤ length bytes → len ≡ to - from → Nowhere (Passes (is_byte2 10 13) (slice_range bytes from to)) 0 len
    → None ≡ first_between (breaks_of bytes) from to
first_none bytes from to len ordered within long nowhere =
    let end : from + len ≡ to = omega (arith, long, ordered) in
    let bare = bare_part bytes from to len (omega (arith, end)) nowhere in
    sym (none_after bytes from to (from + len) (omega (arith, end)) within (omega (arith, end)) (none_upto bytes from to len bare))

pub first_some : (bytes : List ℕ) (from to further : ℕ) (found : Option LineBreak) → from + further < to → to ≤ length bytes → is_second_byte (breaks_of bytes) from ≡ false
    → Nowhere (Passes (is_byte2 10 13) (slice_range bytes from to)) 0 further → Passes (is_byte2 10 13) (slice_range bytes from to) further
    → found ≡ break_at bytes (from + further) → found ≡ first_between (breaks_of bytes) from to
first_some bytes from to further None inside within outside nowhere passes e =
    let bare = bare_part bytes from to further (omega (arith, inside)) nowhere in
    let at = from + further in
    let there : at - from ≡ further = omega arith in
    let byte = ap (is_byte2 10 13) (sym (part_at bytes from to at (omega arith) inside) ∙ ap (λ i. get_or (slice_range bytes from to) i 0) there) ∙ passes in
    let pair = pair_of bytes at byte (sym e) in
    absurd (⊎_elim
    (λ some. bare (at - 1) (omega (arith, some)) (omega (arith, some)) (cr_passes (get_or bytes (at - 1) 0) pair.0))
    (λ zero. let same : at ≡ from = omega (arith, zero) in
    false≢true (sym outside ∙ subst (λ k. is_second_byte (breaks_of bytes) k ≡ true) same (pair_second bytes at pair.0 pair.1 (omega (arith, inside, within)))))
    (cases_lt 0 further))
  where
    cr_passes : (x : ℕ) → x ≡ 13 → is_byte2 10 13 x ≡ true
    cr_passes x e = grind (arith, nat_tests)
first_some bytes from to further (Some b) inside within outside nowhere passes e =
    sym (found_first bytes from to (from + further) b (omega arith) inside within (sym e) (none_upto bytes from to further (bare_part bytes from to further (omega (arith, inside)) nowhere)))

-- the search back
take_at : (bytes : List ℕ) (to k : ℕ) → k < to → get_or (take to bytes) k 0 ≡ get_or bytes k 0
take_at bytes to k lt = get_or-take to bytes k 0 lt

bare_front : (bytes : List ℕ) (to from : ℕ) → Nowhere (Passes (is_byte2 10 13) (take to bytes)) from to → IsBare bytes from to
bare_front bytes to from nowhere = λ k low high passes. nowhere k low high (ap (is_byte2 10 13) (take_at bytes to k high) ∙ passes)

pub last_none : (bytes : List ℕ) (to : ℕ) → to ≤ length bytes → Nowhere (Passes (is_byte2 10 13) (take to bytes)) 0 to → None ≡ last_before (breaks_of bytes) to
last_none bytes to within nowhere =
    let end : 0 + to ≡ to = omega arith in
    sym (last_missed bytes to within (same_upto bytes 0 to (λ k low high. bare_front bytes to 0 nowhere k low (omega (arith, high))) ∙ ap (breaks_before bytes) end))

after_last : (bytes : List ℕ) (to at : ℕ) → at < to → Nowhere (Passes (is_byte2 10 13) (take to bytes)) (at + 1) to → breaks_before bytes (at + 1) ≡ breaks_before bytes to
after_last bytes to at lt nowhere =
    let end : at + 1 + (to - (at + 1)) ≡ to = omega (arith, lt) in
    same_upto bytes (at + 1) (to - (at + 1)) (λ k low high. bare_front bytes to (at + 1) nowhere k low (omega (arith, high, end))) ∙ ap (breaks_before bytes) end

pub last_some : (bytes : List ℕ) (to at : ℕ) (b : LineBreak) → at < to → to ≤ length bytes → is_second_byte (breaks_of bytes) to ≡ false
    → Nowhere (Passes (is_byte2 10 13) (take to bytes)) (at + 1) to → break_at bytes at ≡ Some b → Some b ≡ last_before (breaks_of bytes) to
last_some bytes to at b lt within outside nowhere e =
    sym (last_found bytes to at b within e (ends_before bytes to at b within outside e lt).0 (after_last bytes to at lt nowhere))

pub last_pair : (bytes : List ℕ) (to at before : ℕ) (found : Option LineBreak) → at < to → to ≤ length bytes → is_second_byte (breaks_of bytes) to ≡ false
    → Nowhere (Passes (is_byte2 10 13) (take to bytes)) (at + 1) to → Passes (is_byte2 10 13) (take to bytes) at → break_at bytes at ≡ None
    → before ≡ at - 1 → found ≡ break_at bytes before → found ≡ last_before (breaks_of bytes) to
last_pair bytes to at before found lt within outside nowhere passes none place e =
    let pair = pair_of bytes at (ap (is_byte2 10 13) (sym (take_at bytes to at lt)) ∙ passes) none in
    let low = pair_low bytes at pair.0 pair.1 in
    let starts = pair_starts bytes at pair.0 pair.1 in
    let next : at - 1 + 1 ≡ at = omega (arith, low) in
    let same : breaks_before bytes (at - 1 + 1) ≡ breaks_before bytes to = ap (breaks_before bytes) next ∙ sym (breaks_before_none bytes at none) ∙ after_last bytes to at lt nowhere in
    e ∙ ap (break_at bytes) place ∙ starts ∙ sym (last_found bytes to (at - 1) (record { start = at - 1; end = at - 1 + 1 }) within starts (omega (arith, next, lt)) same)

-- the count: breaks that start from a place on, against the LFs and the CRs before no LF
abbrev is_pair : List ℕ → ℕ → Bool
is_pair bytes at = eqb (get_or bytes (at - 1) 0) 13 && eqb (get_or bytes at 0) 10

abbrev one : Option LineBreak → ℕ
one (Some b) = 1
one None = 0

one_more : (found : Option LineBreak) (rest : List LineBreak) → length (cons_option found rest) ≡ one found + length rest
one_more None rest = let nothing : Option LineBreak = None in let same : length (cons_option nothing rest) ≡ length rest = refl in let none : one nothing ≡ 0 = refl in omega (arith, same, none)
one_more (Some b) rest = let same : length (cons_option (Some b) rest) ≡ suc (length rest) = refl in let some : one (Some b) ≡ 1 = refl in omega (arith, same, some)

balance : (lf cr prev next : Bool) (s t u : LineBreak) → (lf ≡ true → cr ≡ true → ⊥)
    → one (if lf then (if prev then None else Some s) else if cr then (if next then Some t else Some u) else None) + cond (prev && lf) 1 0
    ≡ cond lf 1 0 + cond cr (cond (not next) 1 0) 0 + cond (cr && next) 1 0
balance true true prev next s t u apart = absurd (apart refl refl)
balance true false true true s t u apart = refl
balance true false true false s t u apart = refl
balance true false false true s t u apart = refl
balance true false false false s t u apart = refl
balance false true true true s t u apart = refl
balance false true true false s t u apart = refl
balance false true false true s t u apart = refl
balance false true false false s t u apart = refl
balance false false true true s t u apart = refl
balance false false true false s t u apart = refl
balance false false false true s t u apart = refl
balance false false false false s t u apart = refl

balanced : (bytes : List ℕ) (i : ℕ) → one (break_at bytes i) + cond (is_pair bytes i) 1 0
    ≡ cond (eqb (get_or bytes i 0) 10) 1 0 + cond (eqb (get_or bytes i 0) 13) (cond (is_before_no_lf bytes i) 1 0) 0 + cond (is_pair bytes (i + 1)) 1 0
balanced bytes i =
    let back : i + 1 - 1 ≡ i = omega arith in
    let pair : is_pair bytes (i + 1) ≡ eqb (get_or bytes i 0) 13 && eqb (get_or bytes (i + 1) 0) 10 = ap (λ k. eqb (get_or bytes k 0) 13 && eqb (get_or bytes (i + 1) 0) 10) back in
    rw pair
    (balance (eqb (get_or bytes i 0) 10) (eqb (get_or bytes i 0) 13) (eqb (get_or bytes (i - 1) 0) 13) (eqb (get_or bytes (i + 1) 0) 10)
    (record { start = i; end = i }) (record { start = i; end = i + 1 }) (record { start = i; end = i })
    (λ e f. let a = eqb-true (get_or bytes i 0) 10 e in omega (arith, a, eqb-true (get_or bytes i 0) 13 f)))

abbrev bit : Bool → ℕ
bit b = cond b 1 0

abbrev both_bit : Bool → Bool → ℕ
both_bit a b = cond a (cond b 1 0) 0

filter_one : (q : ℕ → Bool) (i : ℕ) (later : List ℕ) (passes : Bool) → q i ≡ passes → length (filter q (i ∷ later)) ≡ cond passes 1 0 + length (filter q later)
filter_one q i later true e = let same : length (filter q (i ∷ later)) ≡ suc (length (filter q later)) = rw e refl in let some : bit true ≡ 1 = refl in omega (arith, same, some)
filter_one q i later false e = let same : length (filter q (i ∷ later)) ≡ length (filter q later) = rw e refl in let none : bit false ≡ 0 = refl in omega (arith, same, none)

stray_one : (q : ℕ → Bool) (i : ℕ) (later : List ℕ) (cr : Bool) → length (filter q (if cr then i ∷ later else later)) ≡ cond cr (cond (q i) 1 0) 0 + length (filter q later)
stray_one q i later true = filter_one q i later (q i) refl
stray_one q i later false = let none : both_bit false (q i) ≡ 0 = refl in let same : length (filter q (if false then i ∷ later else later)) ≡ length (filter q later) = refl in omega (arith, none, same)

count_step : (bytes : List ℕ) (i n : ℕ) → i < length bytes → count_by (λ byte. eqb byte 10) (take (suc n) (drop i bytes)) ≡ cond (eqb (get_or bytes i 0) 10) 1 0 + count_by (λ byte. eqb byte 10) (take n (drop (i + 1) bytes))
count_step bytes i n lt =
    let next : suc i ≡ i + 1 = omega arith in
    ap (λ l. count_by (λ byte. eqb byte 10) (take (suc n) l)) (drop-cons bytes i 0 lt)
    ∙ count_cons (λ byte. eqb byte 10) (get_or bytes i 0) (take n (drop (suc i) bytes))
    ∙ ap (λ k. cond (eqb (get_or bytes i 0) 10) 1 0 + count_by (λ byte. eqb byte 10) (take n (drop k bytes))) next

counted : (bytes : List ℕ) (i n : ℕ) → i + n ≤ length bytes
    → length (filter_map (break_at bytes) (range_with_len i n)) + cond (is_pair bytes i) 1 0
    ≡ count_by (λ byte. eqb byte 10) (take n (drop i bytes)) + length (filter (is_before_no_lf bytes) (places_from (is_byte 13) bytes i n)) + cond (is_pair bytes (i + n)) 1 0
unfolding places_from
counted bytes i zero h = let same : i + 0 ≡ i = omega arith in rw same (omega arith)
counted bytes i (suc n) h =
    let rest = counted bytes (i + 1) n (omega (arith, h)) in
    let end : is_pair bytes (i + 1 + n) ≡ is_pair bytes (i + suc n) = (let e : i + 1 + n ≡ i + suc n = omega arith in ap (is_pair bytes) e) in
    let ends : bit (is_pair bytes (i + 1 + n)) ≡ bit (is_pair bytes (i + suc n)) = ap bit end in
    let brk = one_more (break_at bytes i) (filter_map (break_at bytes) (range_with_len (i + 1) n)) in
    let lfs = count_step bytes i n (omega (arith, h)) in
    let crs = stray_one (is_before_no_lf bytes) i (places_from (is_byte 13) bytes (i + 1) n) (eqb (get_or bytes i 0) 13) in
    omega (arith, rest, ends, brk, lfs, crs, balanced bytes i)

places_take : (test : ℕ → Bool) (bytes : List ℕ) (m i n : ℕ) → i + n ≤ m → places_from test (take m bytes) i n ≡ places_from test bytes i n
unfolding places_from
places_take test bytes m i zero h = refl
places_take test bytes m i (suc n) h =
    rw (get_or-take m bytes i 0 (omega (arith, h)), places_take test bytes m (i + 1) n (omega (arith, h))) refl

places_front : (test : ℕ → Bool) (bytes : List ℕ) (to : ℕ) → to ≤ length bytes → places test (take to bytes) ≡ places_from test bytes 0 to
places_front test bytes to within =
    let long : length (take to bytes) - 0 ≡ to = omega (arith, length-take-le to bytes within) in
    ap (places_from test (take to bytes) 0) long ∙ places_take test bytes to 0 to (omega arith)

no_pair : (bytes : List ℕ) (to : ℕ) → to ≤ length bytes → is_second_byte (breaks_of bytes) to ≡ false → is_pair bytes to ≡ false
no_pair bytes to within outside =
    false_unless (is_pair bytes to) (λ both.
    let cr = eqb-true (get_or bytes (to - 1) 0) 13 (and_left (eqb (get_or bytes (to - 1) 0) 13) (eqb (get_or bytes to 0) 10) both) in
    let lf = eqb-true (get_or bytes to 0) 10 (and_right (eqb (get_or bytes (to - 1) 0) 13) (eqb (get_or bytes to 0) 10) both) in
    false≢true (sym outside ∙ pair_second bytes to cr lf within))
  where
    and_left : (a b : Bool) → a && b ≡ true → a ≡ true
    and_left true b e = refl
    and_left false b e = e

    and_right : (a b : Bool) → a && b ≡ true → b ≡ true
    and_right true b e = e
    and_right false b e = let no_way : false ≡ true = e in cc

no_pair_first : (bytes : List ℕ) → is_pair bytes 0 ≡ false
no_pair_first bytes = grind (arith, nat_tests)

-- each LF ends a break, and each CR that no LF follows
pub count_is : (bytes : List ℕ) (to : ℕ) → to ≤ length bytes → is_second_byte (breaks_of bytes) to ≡ false
    → count_by (λ byte. eqb byte 10) (take to bytes) + length (filter (is_before_no_lf bytes) (places (is_byte 13) (take to bytes))) ≡ length (breaks_before bytes to)
unfolding breaks_before
count_is bytes to within outside =
    let all = counted bytes 0 to (omega (arith, within)) in
    let zero_more : 0 + to ≡ to = omega arith in
    let last : bit (is_pair bytes (0 + to)) ≡ 0 = ap bit (ap (is_pair bytes) zero_more ∙ no_pair bytes to within outside) in
    let first : bit (is_pair bytes 0) ≡ 0 = ap bit (no_pair_first bytes) in
    let crs = ap (λ l. length (filter (is_before_no_lf bytes) l)) (places_front (is_byte 13) bytes to within) in
    omega (arith, all, last, first, crs)

pub count_row : (bytes : List ℕ) (to : ℕ) → to ≤ length bytes → is_second_byte (breaks_of bytes) to ≡ false
    → count_by (λ byte. eqb byte 10) (take to bytes) + length (filter (is_before_no_lf bytes) (places (is_byte 13) (take to bytes))) ≡ row_of (breaks_of bytes) to
count_row bytes to within outside = count_is bytes to within outside ∙ sym (counted_upto bytes to within outside)

no_places : (test : ℕ → Bool) (hay : List ℕ) (i n : ℕ) → ((k : ℕ) → k < i + n → test (get_or hay k 0) ≡ false) → places_from test hay i n ≡ []
unfolding places_from
no_places test hay i zero fails = refl
no_places test hay i (suc n) fails =
    rw (fails i (omega arith), no_places test hay (i + 1) n (λ k lt. fails k (omega (arith, lt)))) refl

-- where there is no CR, the LFs are all
pub count_feeds : (bytes : List ℕ) (to : ℕ) → list_any (λ byte. eqb byte 13) (take to bytes) ≡ false → length (filter (is_before_no_lf bytes) (places (is_byte 13) (take to bytes))) ≡ 0
count_feeds bytes to none =
    let part = take to bytes in
    ap (λ l. length (filter (is_before_no_lf bytes) l))
    (no_places (is_byte 13) part 0 (length part - 0)
    (λ k lt. false_unless (is_byte 13 (get_or part k 0)) (λ some. false≢true (sym none ∙ list_any_at (λ byte. eqb byte 13) part k 0 (omega (arith, lt)) some))))
