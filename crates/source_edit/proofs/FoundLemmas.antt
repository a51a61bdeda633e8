-- What the searches find, and what the loops over row starts leave.
use Rattle.std.proofs.Common.{◌≡◌, ℕ, ◌+◌, ◌-◌, ◌<◌, ◌≤◌, Bool, true, false, cond, nat_lt, List, [], ◌∷◌, ◌++◌, length, map, take, drop, set, get_or, refl, sym, ap, ◌∙◌, arith, suc, zero, count_by, ◌==◌, if◌then◌else◌, All, append_assoc}
use Rattle.std.specs.List.{filter, range_with_len}
use Rattle.std.proofs.lemmas.Bool.Decides.{nat_tests}
use Rattle.std.proofs.lemmas.List.{get_or_append_left, get_or-append-add, length-append, length-take, take-append-le, take-take, drop_at}
use Rattle.std.proofs.lemmas.List.Elements.{All-filter, filter-append}
use Rattle.std.proofs.lemmas.List.Sums.{sum_by-cons}
use Rattle.std.proofs.lemmas.List.FromFn.{length-range_with_len, get_or-range_with_len}
use Rattle.memchr.specs.Find.{is_byte2, places_from, places}
use Rattle.source_edit.specs.Edits.{Change, edited}
use Rattle.source_edit.specs.Starts.{starts_between, ends_row}
use Rattle.text_places.proofs.EndLemmas.{is_start}
use Rattle.source_edit.proofs.StartsLemmas.{between_are, back_starts, edited_length}

-- no fewer places lie before a later one
one_le : (x a b : ℕ) → a ≤ b → cond {A = ℕ} (nat_lt x a) 1 0 ≤ cond {A = ℕ} (nat_lt x b) 1 0
one_le x a b le = grind (arith, nat_tests)

pub count_le : (list : List ℕ) (a b : ℕ) → a ≤ b → count_by (λ start. nat_lt start a) list ≤ count_by (λ start. nat_lt start b) list
count_le [] a b le = omega arith
count_le (x ∷ list) a b le =
    omega (arith, sum_by-cons (λ start. cond (nat_lt start a) 1 0) x list, sum_by-cons (λ start. cond (nat_lt start b) 1 0) x list, one_le x a b le, count_le list a b le)

-- one element more is set
pub set_next : (f : ℕ → ℕ) (xs : List ℕ) (i v d : ℕ) → i < length xs → v ≡ f (get_or xs i d) → set (map f (take i xs) ++ drop i xs) i v ≡ map f (take (i + 1) xs) ++ drop (i + 1) xs
set_next f [] i v d h e = absurd (omega (arith, h))
set_next f (x ∷ xs) zero v d h e = rw e refl
set_next f (x ∷ xs) (suc i) v d h e =
    let one_more : suc i + 1 ≡ suc (i + 1) = omega arith in
    rw one_more (ap (λ l. f x ∷ l) (set_next f xs i v d (omega (arith, h)) e))

-- the element that is set
pub next_is : (f : ℕ → ℕ) (xs : List ℕ) (i d : ℕ) → i < length xs → get_or (map f (take i xs) ++ drop i xs) i d ≡ get_or xs i d
next_is f [] i d h = absurd (omega (arith, h))
next_is f (x ∷ xs) zero d h = refl
next_is f (x ∷ xs) (suc i) d h = next_is f xs i d (omega (arith, h))

-- the bytes of a text in three parts
abbrev pub joined : List ℕ → List ℕ → List ℕ → List ℕ
joined before insert behind = (before ++ insert) ++ behind

before_byte : (before insert behind : List ℕ) (i : ℕ) → i < length before → get_or (joined before insert behind) i 0 ≡ get_or before i 0
before_byte before insert behind i h =
    get_or_append_left (before ++ insert) behind 0 i (omega (arith, h, length-append before insert)) ∙ get_or_append_left before insert 0 i h

insert_byte : (before insert behind : List ℕ) (i : ℕ) → get_or (joined before insert behind) (length before + i) 0 ≡ get_or (insert ++ behind) i 0
insert_byte before insert behind i =
    ap (λ l. get_or l (length before + i) 0) (append_assoc before insert behind) ∙ get_or-append-add before (insert ++ behind) i 0

-- whether a row starts behind a byte of the part that is searched
pub near_is : (before insert behind : List ℕ) (at : ℕ) → at < length insert
    → is_start (joined before insert behind) (length before + at + 1) ≡ ends_row (get_or insert at 0) (get_or (insert ++ behind) (at + 1) 0)
near_is before insert behind at h =
    let text = joined before insert behind in
    let n = length before in
    let zero : (n + at + 1 == 0) ≡ false = grind (arith, nat_tests) in
    let back : n + at + 1 - 1 ≡ n + at = omega arith in
    let next : n + at + 1 ≡ n + (at + 1) = omega arith in
    ap (λ b. if b then true else ends_row (get_or text (n + at + 1 - 1) 0) (get_or text (n + at + 1) 0)) zero
    ∙ ap (λ byte. ends_row byte (get_or text (n + at + 1) 0)) (ap (λ k. get_or text k 0) back ∙ insert_byte before insert behind at ∙ get_or_append_left insert behind 0 at h)
    ∙ ap (λ after. ends_row (get_or insert at 0) after) (ap (λ k. get_or text k 0) next ∙ insert_byte before insert behind (at + 1))

-- and right at its beginning
pub first_is : (before insert behind : List ℕ)
    → (if length before == 0 then length before ∷ [] else if ends_row (get_or before (length before - 1) 0) (get_or (insert ++ behind) 0 0) then length before ∷ [] else [])
    ≡ filter (is_start (joined before insert behind)) (length before ∷ [])
first_is [] insert behind = refl
first_is (x ∷ before) insert behind =
    let all = x ∷ before in
    let text = joined all insert behind in
    let zero : (length all == 0) ≡ false = grind (arith, nat_tests) in
    let place : length all ≡ length all + 0 = omega arith in
    let last = before_byte all insert behind (length all - 1) (omega arith) in
    let next : get_or text (length all) 0 ≡ get_or (insert ++ behind) 0 0 = ap (λ k. get_or text k 0) place ∙ insert_byte all insert behind 0 in
    ap (λ b. if b then length all ∷ [] else if ends_row (get_or all (length all - 1) 0) (get_or (insert ++ behind) 0 0) then length all ∷ [] else []) zero
    ∙ ap (λ byte. if ends_row byte (get_or (insert ++ behind) 0 0) then length all ∷ [] else []) (sym last)
    ∙ ap (λ after. if ends_row (get_or text (length all - 1) 0) after then length all ∷ [] else []) (sym next)
    ∙ ap (λ b. cond (if b then true else ends_row (get_or text (length all - 1) 0) (get_or text (length all) 0)) (length all ∷ []) []) (sym zero)

-- only behind an LF or a CR does a row start
not_found : (byte after : ℕ) → is_byte2 10 13 byte ≡ false → ends_row byte after ≡ false
not_found byte after e = grind (arith, nat_tests)

-- what the search gives
places_in_range : (bytes : List ℕ) (i n : ℕ) → places_from (is_byte2 10 13) bytes i n ≡ filter (λ at. is_byte2 10 13 (get_or bytes at 0)) (range_with_len i n)
unfolding places_from
places_in_range bytes i zero = refl
places_in_range bytes i (suc n) = ap (λ later. cond (is_byte2 10 13 (get_or bytes i 0)) (i ∷ later) later) (places_in_range bytes (i + 1) n)

places_are : (bytes : List ℕ) → places (is_byte2 10 13) bytes ≡ filter (λ at. is_byte2 10 13 (get_or bytes at 0)) (range_with_len 0 (length bytes))
places_are bytes = places_in_range bytes 0 (length bytes - 0) ∙ ap (λ n. filter (λ at. is_byte2 10 13 (get_or bytes at 0)) (range_with_len 0 n)) (omega arith)

range_within : (a n b : ℕ) → a + n ≤ b → All (λ at. (a ≤ at) × (at < b)) (range_with_len a n)
range_within a n b le k d h =
    let size = length-range_with_len a n in
    (omega (arith, get_or-range_with_len a n k d (omega (arith, size, h))), omega (arith, get_or-range_with_len a n k d (omega (arith, size, h)), size, h))

pub places_inside : (bytes : List ℕ) → All (λ at. at < length bytes) (places (is_byte2 10 13) bytes)
places_inside bytes =
    rw places_are (λ k d h. (All-filter (λ at. is_byte2 10 13 (get_or bytes at 0)) (λ at. (0 ≤ at) × (at < length bytes)) (range_with_len 0 (length bytes)) (range_within 0 (length bytes) (length bytes) (omega arith)) k d h).1)

-- the rows that start behind a place that was found are all that start there
module _ (before insert behind : List ℕ) where
  abbrev test : ℕ → Bool
  test = is_start (joined before insert behind)

  abbrev row : ℕ → ℕ
  row at = length before + at + 1

  chosen : (found : Bool) (i start : ℕ) (places starts : List ℕ) → row i ≡ start → filter test (map row places) ≡ starts → (found ≡ false → test start ≡ false)
      → filter test (map row (cond found (i ∷ places) places)) ≡ cond (test start) (start ∷ starts) starts
  chosen true i start places starts at rest none = rw (at, rest) refl
  chosen false i start places starts at rest none = rw (none refl) rest

  found_from : (i n : ℕ) → i + n ≤ length insert
      → filter test (map row (filter (λ at. is_byte2 10 13 (get_or insert at 0)) (range_with_len i n))) ≡ filter test (range_with_len (length before + 1 + i) n)
  found_from i zero le = refl
  found_from i (suc n) le =
      let next : length before + 1 + (i + 1) ≡ length before + 1 + i + 1 = omega arith in
      let here : length before + 1 + i ≡ length before + i + 1 = omega arith in
      chosen (is_byte2 10 13 (get_or insert i 0)) i (length before + 1 + i) (filter (λ at. is_byte2 10 13 (get_or insert at 0)) (range_with_len (i + 1) n)) (filter test (range_with_len (length before + 1 + i + 1) n))
      (sym here)
      (found_from (i + 1) n (omega arith) ∙ ap (λ k. filter test (range_with_len k n)) next)
      (λ none. ap test here ∙ near_is before insert behind i (omega arith) ∙ not_found (get_or insert i 0) (get_or (insert ++ behind) (i + 1) 0) none)

  -- at first, with the row that starts right at the beginning
  pub found_init : (first : List ℕ) → first ≡ filter test (length before ∷ [])
      → first ++ filter test (map row (places (is_byte2 10 13) insert)) ≡ starts_between (joined before insert behind) (length before) (length before + length insert)
  found_init first is_first =
      let n = length before in
      let m = length insert in
      let size : n + m - n + 1 ≡ suc m = omega arith in
      let begin : n + 1 + 0 ≡ n + 1 = omega arith in
      let inside : n + m ≤ length (joined before insert behind) = omega (arith, length-append (before ++ insert) behind, length-append before insert) in
      ap (λ l. l ++ filter test (map row (places (is_byte2 10 13) insert))) is_first
      ∙ ap (λ l. filter test (n ∷ []) ++ filter test (map row l)) (places_are insert)
      ∙ ap (λ l. filter test (n ∷ []) ++ l) (found_from 0 m (omega arith) ∙ ap (λ k. filter test (range_with_len k m)) begin)
      ∙ sym (filter-append test (n ∷ []) (range_with_len (n + 1) m))
      ∙ ap (λ k. filter test (range_with_len n k)) (sym size)
      ∙ sym (between_are (joined before insert behind) n (n + m) (omega arith) inside)

  -- then one place after another, whether a row starts behind it or not
  pub found_one : (starts : List ℕ) (at start : ℕ) (rest : List ℕ) (all : List ℕ) → at < length insert → start ≡ row at
      → ends_row (get_or insert at 0) (get_or (insert ++ behind) (at + 1) 0) ≡ true
      → starts ++ filter test (map row (at ∷ rest)) ≡ all → (starts ++ start ∷ []) ++ filter test (map row rest) ≡ all
  found_one starts at start rest all h is ends known =
      let passes : test (row at) ≡ true = near_is before insert behind at h ∙ ends in
      append_assoc starts (start ∷ []) (filter test (map row rest))
      ∙ ap (λ k. starts ++ (k ∷ filter test (map row rest))) is
      ∙ ap (λ b. starts ++ cond b (row at ∷ filter test (map row rest)) (filter test (map row rest))) (sym passes)
      ∙ known

  pub found_none : (starts : List ℕ) (at : ℕ) (rest : List ℕ) (all : List ℕ) → at < length insert
      → ends_row (get_or insert at 0) (get_or (insert ++ behind) (at + 1) 0) ≡ false
      → starts ++ filter test (map row (at ∷ rest)) ≡ all → starts ++ filter test (map row rest) ≡ all
  found_none starts at rest all h ends known =
      let fails : test (row at) ≡ false = near_is before insert behind at h ∙ ends in
      ap (λ b. starts ++ cond b (row at ∷ filter test (map row rest)) (filter test (map row rest))) (sym fails)
      ∙ known

-- what is moved lies so far behind, and stays in range
pub behind_range : (text : List ℕ) (change : Change) (limit : ℕ) → change.start ≤ change.end → change.end ≤ length text → length (edited text change) < limit
    → All (λ start. ((change.end - change.start) ≤ start) × (start - (change.end - change.start) + length change.insert < limit)) (back_starts text change.end)
behind_range text change limit le within fits k d h =
    let place = All-filter (is_start text) (λ at. ((change.end + 1) ≤ at) × (at < length text + 1)) (range_with_len (change.end + 1) (length text - change.end)) (range_within (change.end + 1) (length text - change.end) (length text + 1) (omega arith)) k d h in
    (omega (arith, place.0), omega (arith, place.0, place.1, fits, edited_length text change le within))

-- what is put between those before a range and those behind it
pub put_between : (list starts : List ℕ) (h : ℕ → ℕ) (first behind : ℕ) → first ≤ behind → behind ≤ length list
    → take first (take behind list ++ map h (drop behind list)) ++ (starts ++ drop behind (take behind list ++ map h (drop behind list))) ≡ take first list ++ (starts ++ map h (drop behind list))
put_between list starts h first behind le within =
    let size : length (take behind list) ≡ behind = omega (arith, length-take behind list) in
    ap (λ l. l ++ (starts ++ drop behind (take behind list ++ map h (drop behind list))))
    (take-append-le first (take behind list) (map h (drop behind list)) (omega (arith, size)) ∙ take-take first behind list le)
    ∙ ap (λ l. take first list ++ (starts ++ l)) (drop_at (take behind list) (map h (drop behind list)) behind size)
