-- A walk back over the breaks.
use Rattle.std.proofs.Common.{append_assoc, ◌≡◌, ℕ, ◌+◌, ◌-◌, ◌<◌, ◌≤◌, ◌&&◌, Bool, true, false, List, [], ◌∷◌, ◌++◌, length, map, get_or, take, drop, All, Some, None, refl, sym, ap, subst, ◌∙◌, arith, zero, suc, ltb, eqb, ⊎_elim, reverse}
use Rattle.std.specs.List.{find}
use Rattle.std.proofs.lemmas.Bool.{cases_lt, false≢true, le-ltb, lt-ltb}
use Rattle.std.proofs.lemmas.Bool.Decides.{nat_tests}
use Rattle.std.proofs.lemmas.List.{length-append, length-reverse, reverse-append, get_or-reverse, get_or_append_left, get_or-append-add, take-append-drop, map-append}
use Rattle.std.proofs.lemmas.List.Elements.{All-push, All-append, All-nil}
use Rattle.std.proofs.lemmas.List.Folds.{list_any_at, list_any_none}
use Rattle.oxc_windows.specs.declared.breaks.LineBreak.{LineBreak}
use Rattle.oxc_windows.specs.Breaks.{AreBreaks, IsBreakList}
use Rattle.oxc_windows.specs.Rows.{row_of, row_start, is_second_byte}
use Rattle.std.proofs.lemmas.Bool.{and_parts, eqb-true, ltb-true}
use Rattle.std.proofs.lemmas.List.{get_or_default}
use Rattle.std.proofs.lemmas.List.Folds.{Any-from_list_any}
use Rattle.oxc_windows.proofs.Counting.{false_unless}
use Rattle.oxc_windows.proofs.RowsLemmas.{end_at_row, row_le, row_start_after, row_start_first, ends_before_row, ends_from_row}
use Rattle.oxc_windows.specs.Held.{Held, IsHeld, Back, IsBack, IsCut}
use Rattle.oxc_windows.specs.Source.{last_before}
use Rattle.oxc_windows.proofs.ListLemmas.{all_head, all_weaker, find_skip, breaks_left, breaks_right}

reverse_cons : {X : Type 0} (x : X) (xs : List X) → reverse (x ∷ xs) ≡ reverse xs ++ x ∷ []
reverse_cons x xs = reverse-append (x ∷ []) xs

reverse_push : {X : Type 0} (xs : List X) (x : X) → reverse (xs ++ x ∷ []) ≡ x ∷ reverse xs
reverse_push xs x = reverse-append xs (x ∷ [])

pub reverse_twice : {X : Type 0} (xs : List X) → reverse (reverse xs) ≡ xs
reverse_twice [] = refl
reverse_twice (x ∷ xs) = ap reverse (reverse_cons x xs) ∙ reverse_push (reverse xs) x ∙ ap (λ l. x ∷ l) (reverse_twice xs)

pub map_reverse : {X Y : Type 0} (f : X → Y) (xs : List X) → map f (reverse xs) ≡ reverse (map f xs)
map_reverse f [] = refl
map_reverse f (x ∷ xs) = ap (map f) (reverse_cons x xs) ∙ map-append f (reverse xs) (x ∷ []) ∙ ap (λ l. l ++ f x ∷ []) (map_reverse f xs) ∙ sym (reverse_cons (f x) (map f xs))

pub all_reverse : {X : Type 0} (P : X → Type 0) (xs : List X) → All P xs → All P (reverse xs)
all_reverse P xs all = λ k d h.
    let less : k < length xs = omega (arith, h, length-reverse xs) in
    subst P (sym (get_or-reverse xs k d less)) (all (length xs - 1 - k) d (omega (arith, less)))

-- at the place where the walk stands: those passed and those after it all start from there on
pub back_here : (list : List LineBreak) (top cut at : ℕ) (taken : List LineBreak) → Back list top cut at taken → Back list top at at []
back_here list top cut at taken h = record {
  back = h.back;
  rest = reverse taken ++ h.rest;
  split = h.split;
  above = h.above;
  before = h.before;
  low = All-nil (λ b. at ≤ b.start);
  high = All-nil (λ b. b.end < at);
  ahead = All-append (λ b. at ≤ b.start) (reverse taken) h.rest (all_reverse (λ b. at ≤ b.start) taken h.low)
      (all_weaker (λ b. cut ≤ b.start) (λ b. at ≤ b.start) h.rest (λ b q. omega (arith, q, h.ordered)) h.ahead);
  ordered = omega arith;
}

-- a search back from there looks at those above alone
pub last_is : (list : List LineBreak) (top at : ℕ) → AreBreaks list → (h : Back list top at at []) → last_before list at ≡ find (λ b. ltb b.end at) h.back
unfolding last_before
last_is list top at ok h =
    let p : LineBreak → Bool = λ b. ltb b.end at in
    let shape = (breaks_right (reverse h.back) h.rest (subst AreBreaks h.split ok)).shape in
    let none : All (λ b. p b ≡ false) h.rest = λ k d q. le-ltb (get_or h.rest k d).end at (omega (arith, h.ahead k d q, (shape k d q).0)) in
    ap (λ l. find p (reverse l)) h.split ∙ ap (find p) (reverse-append (reverse h.back) h.rest)
    ∙ find_skip p (reverse h.rest) (reverse (reverse h.back)) (all_reverse (λ b. p b ≡ false) h.rest none)
    ∙ ap (find p) (reverse_twice h.back)

find_first : (at : ℕ) (b : LineBreak) (more : List LineBreak) → b.end < at → find (λ b. ltb b.end at) (b ∷ more) ≡ Some b
find_first at b more lt = rw (lt-ltb b.end at lt) refl

-- what the search finds is the nearest of those above
found_back : (at : ℕ) (b : LineBreak) (back : List LineBreak) → All (λ b. b.end < at) back → find (λ b. ltb b.end at) back ≡ Some b
    → (more : List LineBreak) × (back ≡ b ∷ more)
found_back at b [] all e = let no_way : None ≡ Some b = e in cc
found_back at b (c ∷ more) all e =
    let both : Some c ≡ Some b = sym (find_first at c more (all_head (λ b. b.end < at) c more all)) ∙ e in
    let same : c ≡ b = cc in
    (more, ap (λ x. x ∷ more) same)

-- it finds one where there is one
pub none_above : (list : List LineBreak) (top at : ℕ) → AreBreaks list → (h : Back list top at at []) → last_before list at ≡ None → top ≡ 0
none_above list top at ok h none = sym h.above ∙ empty at h.back h.before (sym (last_is list top at ok h) ∙ none)
  where
    empty : (at : ℕ) (back : List LineBreak) → All (λ b. b.end < at) back → find (λ b. ltb b.end at) back ≡ None → length back ≡ 0
    empty at [] all e = refl
    empty at (c ∷ more) all e = let both : Some c ≡ None = sym (find_first at c more (all_head (λ b. b.end < at) c more all)) ∙ e in cc

-- one break further back
pub back_found : (list : List LineBreak) (top cut at : ℕ) (taken : List LineBreak) (b : LineBreak) → AreBreaks list → Back list top cut at taken
    → last_before list at ≡ Some b → (Back list (top - 1) cut b.start (taken ++ b ∷ [])) × (1 ≤ top) × (b.start ≤ b.end) × (b.end < at)
unfolding back_here
back_found list top cut at taken b ok h e =
    let here = back_here list top cut at taken h in
    let next = found_back at b h.back h.before (sym (last_is list top at ok here) ∙ e) in
    let below : All (λ c. c.end < at) (b ∷ next.0) = subst (λ l. All (λ c. c.end < at) l) next.1 h.before in
    let first = all_head (λ c. c.end < at) b next.0 below in
    let moved : reverse h.back ++ (reverse taken ++ h.rest) ≡ reverse next.0 ++ (reverse (taken ++ b ∷ []) ++ h.rest) =
    ap (λ l. reverse l ++ (reverse taken ++ h.rest)) next.1
    ∙ ap (λ l. l ++ (reverse taken ++ h.rest)) (reverse_cons b next.0)
    ∙ append_assoc (reverse next.0) (b ∷ []) (reverse taken ++ h.rest)
    ∙ ap (λ l. reverse next.0 ++ (l ++ h.rest)) (sym (reverse_push taken b)) in
    let order = breaks_left (reverse next.0 ++ b ∷ []) (reverse taken ++ h.rest) (subst AreBreaks (h.split ∙ moved ∙ ap (λ l. reverse next.0 ++ (l ++ h.rest)) (reverse_push taken b) ∙ sym (append_assoc (reverse next.0) (b ∷ []) (reverse taken ++ h.rest))) ok) in
    let own = (breaks_right (reverse next.0) (b ∷ []) order).shape 0 b (omega arith) in
    let count : length h.back ≡ suc (length next.0) = ap length next.1 in
    let earlier : All (λ c. c.end < b.start) (reverse next.0) = λ k d q.
    subst (λ c. c.end < b.start) (get_or_append_left (reverse next.0) (b ∷ []) d k q)
    (subst (λ c. (get_or (reverse next.0 ++ b ∷ []) k d).end < c.start) (get_or-append-add (reverse next.0) (b ∷ []) 0 d)
    (order.apart k (length (reverse next.0) + 0) d (omega (arith, q)) (omega (arith, length-append (reverse next.0) (b ∷ []))))) in (
      record {
        back = next.0;
        rest = h.rest;
        split = h.split ∙ moved;
        above = omega (arith, count, h.above);
        before = subst (λ l. All (λ c. c.end < b.start) l) (reverse_twice next.0) (all_reverse (λ c. c.end < b.start) (reverse next.0) earlier);
        low = All-push (λ c. b.start ≤ c.start) taken b (all_weaker (λ c. at ≤ c.start) (λ c. b.start ≤ c.start) taken (λ c q. omega (arith, q, first, own)) h.low) (omega arith);
        high = All-push (λ c. c.end < cut) taken b h.high (omega (arith, first, h.ordered));
        ahead = h.ahead;
        ordered = omega (arith, first, own, h.ordered);
      },
      omega (arith, count, h.above),
      own.0,
      first,
    )

-- the walk may search from where it stands
pub back_outside : (list : List LineBreak) (top cut at : ℕ) (taken : List LineBreak) → Back list top cut at taken → is_second_byte list at ≡ false
back_outside list top cut at taken h =
    let here = back_here list top cut at taken h in
    let p : LineBreak → Bool = λ b. eqb b.end at && ltb b.start at in
    list_any_none p list
    (subst (λ l. All (λ b. p b ≡ false) l) (sym here.split)
    (All-append (λ b. p b ≡ false) (reverse here.back) here.rest
    (all_reverse (λ b. p b ≡ false) here.back (λ k d q. ended (get_or here.back k d).start (get_or here.back k d).end at (here.before k d q)))
    (λ k d q. begun (get_or here.rest k d).start (get_or here.rest k d).end at (here.ahead k d q))))
  where
    ended : (start end at : ℕ) → end < at → eqb end at && ltb start at ≡ false
    ended start end at lt = grind (arith, nat_tests)

    begun : (start end at : ℕ) → at ≤ start → eqb end at && ltb start at ≡ false
    begun start end at le = grind (arith, nat_tests)

-- where the row begins
pub begin_found : (len : ℕ) (list : List LineBreak) (top at : ℕ) (b : LineBreak) → AreBreaks list → Back list top at at [] → last_before list at ≡ Some b
    → (row_start len list top ≡ b.end + 1) × (b.start ≤ b.end) × (b.end < at)
begin_found len list top at b ok h e =
    let next = found_back at b h.back h.before (sym (last_is list top at ok h) ∙ e) in
    let d : LineBreak = record { start = 0; end = 0 } in
    let count : length h.back ≡ suc (length next.0) = ap length next.1 in
    let whole : list ≡ (reverse next.0 ++ b ∷ []) ++ h.rest = h.split ∙ ap (λ l. reverse l ++ h.rest) next.1 ∙ ap (λ l. l ++ h.rest) (reverse_cons b next.0) in
    let long = length-append (reverse next.0) (b ∷ []) in
    let same = length-reverse next.0 in
    let there : get_or list (length (reverse next.0) + 0) d ≡ b =
    ap (λ l. get_or l (length (reverse next.0) + 0) d) whole
    ∙ get_or_append_left (reverse next.0 ++ b ∷ []) h.rest d (length (reverse next.0) + 0) (omega (arith, long))
    ∙ get_or-append-add (reverse next.0) (b ∷ []) 0 d in
    let size : length list ≡ length (reverse next.0 ++ b ∷ []) + length h.rest = ap length whole ∙ length-append (reverse next.0 ++ b ∷ []) h.rest in
    let at_row : suc (length (reverse next.0) + 0) ≡ top = omega (arith, count, same, h.above) in
    let shape = ok.shape (length (reverse next.0) + 0) d (omega (arith, size, long)) in
    let first = all_head (λ c. c.end < at) b next.0 (subst (λ l. All (λ c. c.end < at) l) next.1 h.before) in (
      subst (λ r. row_start len list r ≡ b.end + 1) at_row (row_start_after len list (length (reverse next.0) + 0) d (omega (arith, size, long)) ∙ ap (λ c. c.end + 1) there),
      subst (λ c. c.start ≤ c.end) there shape.0,
      first,
    )

-- the start of a row lies between the breaks before and after it
pub start_after : (len : ℕ) (list : List LineBreak) (top k : ℕ) (d : LineBreak) → AreBreaks list → k < top → top ≤ length list → (get_or list k d).end < row_start len list top
start_after len list zero k d ok lt le = absurd (omega (arith, lt))
start_after len list (suc j) k d ok lt le =
    let e = row_start_after len list j d (omega (arith, le)) in
    ⊎_elim (λ less. omega (arith, e, ok.apart k j d less (omega (arith, le)), (ok.shape j d (omega (arith, le))).0))
    (λ ge. let same : j ≡ k = omega (arith, ge, lt) in
    let here : (get_or list k d).end ≡ (get_or list j d).end = ap (λ m. (get_or list m d).end) (sym same) in omega (arith, e, here)) (cases_lt k j)

pub start_before : (len : ℕ) (list : List LineBreak) (top k : ℕ) (d : LineBreak) → AreBreaks list → top ≤ k → k < length list → row_start len list top ≤ (get_or list k d).start
unfolding row_start
start_before len list zero k d ok low high = omega arith
start_before len list (suc j) k d ok low high =
    omega (arith, row_start_after len list j d (omega (arith, low, high)), ok.apart j k d (omega (arith, low)) high)

-- the walk that stands at its place holds the rows from there on
pub back_held : (len : ℕ) (list : List LineBreak) (top cut at begin : ℕ) (starts : List ℕ) (taken : List LineBreak) → IsBreakList len list
    → Back list top cut at taken → cut ≤ len → begin ≡ row_start len list top → begin ≤ at → starts ≡ map (λ b. b.end + 1) taken
    → Held len list top cut (reverse (starts ++ begin ∷ [])) (reverse taken)
back_held len list top cut at begin starts taken valid h within begins low shown =
    let ok = valid.ordered in
    let front = reverse h.back in
    let size : length list ≡ length front + (length (reverse taken) + length h.rest) = ap length h.split ∙ length-append front (reverse taken ++ h.rest) ∙ ap (λ n. length front + n) (length-append (reverse taken) h.rest) in
    let long = length-reverse h.back in
    record {
      front = front;
      rest = h.rest;
      begin = begin;
      split = h.split;
      above = long ∙ h.above;
      begins = begins;
      before = λ k d q.
          let there : get_or list k d ≡ get_or front k d = ap (λ l. get_or l k d) h.split ∙ get_or_append_left front (reverse taken ++ h.rest) d k q in
          subst (λ b. b.end < begin) there (subst (λ s. (get_or list k d).end < s) (sym begins) (start_after len list top k d ok (omega (arith, q, long, h.above)) (omega (arith, long, h.above, size))));
      low = all_weaker (λ b. at ≤ b.start) (λ b. begin ≤ b.start) (reverse taken) (λ b q. omega (arith, q, low)) (all_reverse (λ b. at ≤ b.start) taken h.low);
      high = all_reverse (λ b. b.end < cut) taken h.high;
      ahead = h.ahead;
      ordered = omega (arith, low, h.ordered);
      within = within;
      starts_are = reverse-append starts (begin ∷ []) ∙ ap (λ s. begin ∷ reverse s) shown ∙ ap (λ s. begin ∷ s) (sym (map_reverse (λ b. b.end + 1) taken));
    }

-- the walk begins at a place that is not inside a CRLF
pub back_begin : (list : List LineBreak) (cut top : ℕ) → AreBreaks list → top ≡ row_of list cut → is_second_byte list cut ≡ false → Back list top cut cut []
back_begin list cut top ok place outside =
    let count = row_le list cut in
    let parts = take-append-drop top list in
    let long : length (take top list) ≡ top = length_take_le top list (omega (arith, place, count)) in
    record {
      back = reverse (take top list);
      rest = drop top list;
      split = sym parts ∙ ap (λ l. l ++ drop top list) (sym (reverse_twice (take top list)));
      above = length-reverse (take top list) ∙ long;
      before = all_reverse (λ b. b.end < cut) (take top list) (λ k d q.
          let there : get_or list k d ≡ get_or (take top list) k d = ap (λ l. get_or l k d) (sym parts) ∙ get_or_append_left (take top list) (drop top list) d k q in
          subst (λ b. b.end < cut) there (ends_before_row list cut ok k d (omega (arith, q, long, place))));
      low = All-nil (λ b. cut ≤ b.start);
      high = All-nil (λ b. b.end < cut);
      ahead = λ k d q.
          let there : get_or list (length (take top list) + k) d ≡ get_or (drop top list) k d = ap (λ l. get_or l (length (take top list) + k) d) (sym parts) ∙ get_or-append-add (take top list) (drop top list) k d in
          let high : length (take top list) + k < length list = omega (arith, q, ap length parts, length-append (take top list) (drop top list)) in
          subst (λ b. cut ≤ b.start) there (not_inside list cut (length (take top list) + k) d ok outside high (ends_from_row list cut ok (length (take top list) + k) d (omega (arith, long, place)) high));
      ordered = omega arith;
    }
  where
    length_take_le : {X : Type 0} (n : ℕ) (xs : List X) → n ≤ length xs → length (take n xs) ≡ n
    length_take_le zero xs h = refl
    length_take_le (suc n) [] h = absurd (omega (arith, h))
    length_take_le (suc n) (x ∷ xs) h = ap suc (length_take_le n xs (omega (arith, h)))

    inside_test : (start end at : ℕ) → start < at → at ≤ end → end ≤ start + 1 → eqb end at && ltb start at ≡ true
    inside_test start end at low high shape = grind (arith, nat_tests)

    not_inside : (list : List LineBreak) (at k : ℕ) (d : LineBreak) → AreBreaks list → is_second_byte list at ≡ false → k < length list → at ≤ (get_or list k d).end → at ≤ (get_or list k d).start
    not_inside list at k d ok outside h le =
        ⊎_elim (λ lt. absurd (false≢true (sym outside ∙ list_any_at (λ b. eqb b.end at && ltb b.start at) list k d h (inside_test (get_or list k d).start (get_or list k d).end at lt le (ok.shape k d h).1))))
        (λ ge. ge) (cases_lt (get_or list k d).start at)

-- what was pushed and turned round
pub turned_held : (len : ℕ) (list : List LineBreak) (top cut at begin : ℕ) (starts pushed turned : List ℕ) (taken back : List LineBreak) → IsBreakList len list
    → Back list top cut at taken → cut ≤ len → begin ≡ row_start len list top → begin ≤ at → starts ≡ map (λ b. b.end + 1) taken
    → pushed ≡ starts ++ begin ∷ [] → turned ≡ reverse pushed → back ≡ reverse taken
    → Held len list top cut turned back
turned_held len list top cut at begin starts pushed turned taken back valid h within begins low shown p t b =
    subst (λ l. Held len list top cut l back) (ap reverse (sym p) ∙ sym t)
    (subst (λ l. Held len list top cut (reverse (starts ++ begin ∷ [])) l) (sym b) (back_held len list top cut at begin starts taken valid h within begins low shown))

pub first_begins : (len : ℕ) (list : List LineBreak) (top : ℕ) → top ≡ 0 → 0 ≡ row_start len list top
first_begins len list top e = sym (ap (row_start len list) e ∙ row_start_first len list)

-- a place that is not inside a CRLF cuts at itself
pub cut_outside : (list : List LineBreak) (start : ℕ) → is_second_byte list start ≡ false → IsCut list start start
cut_outside list start outside = record { upto = omega arith; near = omega arith; outside = outside; same_row = refl }

-- one inside a CRLF cuts before it
pub cut_inside : (list : List LineBreak) (start : ℕ) → AreBreaks list → is_second_byte list start ≡ true → (IsCut list start (start - 1)) × (1 ≤ start)
cut_inside list start ok inside =
    let found = Any-from_list_any (λ b. eqb b.end start && ltb b.start start) list inside in
    let parts = and_parts (eqb found.1.end start) (ltb found.1.start start) found.4 in
    let d = found.1 in
    let k = found.0 in
    let h = found.2 in
    let ends : (get_or list k d).end ≡ start = ap (λ b. b.end) found.3 ∙ eqb-true d.end start parts.0 in
    let starts : (get_or list k d).start < start = subst (λ b. b.start < start) (sym found.3) (ltb-true d.start start parts.1) in
    let shape = ok.shape k d h in
    let here = end_at_row list start k d ok h ends in
    let same : row_of list start ≡ row_of list (start - 1) =
    sym here ∙ row_at list (start - 1) k d ok h (omega (arith, ends)) (λ j low. omega (arith, ok.apart j k d low h, shape, starts, ends)) in (
      record {
        upto = omega arith;
        near = omega arith;
        outside = false_unless (is_second_byte list (start - 1)) (λ too.
            let other = Any-from_list_any (λ b. eqb b.end (start - 1) && ltb b.start (start - 1)) list too in
            let these = and_parts (eqb other.1.end (start - 1)) (ltb other.1.start (start - 1)) other.4 in
            let e2 : (get_or list other.0 other.1).end ≡ start - 1 = ap (λ b. b.end) other.3 ∙ eqb-true other.1.end (start - 1) these.0 in
            let s2 : (get_or list other.0 other.1).start < start - 1 = subst (λ b. b.start < start - 1) (sym other.3) (ltb-true other.1.start (start - 1) these.1) in
            overlap list k other.0 d other.1 ok h other.2 start starts ends e2 s2);
        same_row = same;
      },
      omega (arith, starts),
    )
  where
    row_at : (list : List LineBreak) (o k : ℕ) (d : LineBreak) → AreBreaks list → k < length list → o ≤ (get_or list k d).end → ((j : ℕ) → j < k → (get_or list j d).end < o) → k ≡ row_of list o
    row_at list o k d ok h from before =
        ⊎_elim (λ lt. absurd (omega (arith, from, ends_before_row list o ok k d lt)))
        (λ ge. ⊎_elim (λ less. absurd (omega (arith, before (row_of list o) less, ends_from_row list o ok (row_of list o) d (omega arith) (omega (arith, less, h)))))
        (λ upto. omega (arith, ge, upto)) (cases_lt (row_of list o) k))
        (cases_lt k (row_of list o))

    overlap : (list : List LineBreak) (k j : ℕ) (d e : LineBreak) → AreBreaks list → k < length list → j < length list → (start : ℕ) → (get_or list k d).start < start → (get_or list k d).end ≡ start
        → (get_or list j e).end ≡ start - 1 → (get_or list j e).start < start - 1 → ⊥
    overlap list k j d e ok hk hj start s1 e1 e2 s2 =
        let same : (get_or list j e) ≡ (get_or list j d) = get_or_default list j e d hj in
        let e3 : (get_or list j d).end ≡ start - 1 = ap (λ b. b.end) (sym same) ∙ e2 in
        let s3 : (get_or list j d).start < start - 1 = subst (λ b. b.start < start - 1) same s2 in
        ⊎_elim (λ lt. omega (arith, ok.apart k j d lt hj, e1, e3, (ok.shape j d hj).0, s1, s3))
        (λ ge. ⊎_elim (λ lt. omega (arith, ok.apart j k d lt hk, e1, e3, (ok.shape k d hk).1, s1, s3))
        (λ upto. let eq : j ≡ k = omega (arith, ge, upto) in let e4 : (get_or list j d).end ≡ (get_or list k d).end = ap (λ m. (get_or list m d).end) eq in omega (arith, e4, e3, e1, s1)) (cases_lt j k))
        (cases_lt k j)

-- one break further back, and what is noted of it
pub walk_found : (list : List LineBreak) (top cut at : ℕ) (starts heads : List ℕ) (b : LineBreak) → AreBreaks list → IsBack list top cut at starts heads
    → last_before list at ≡ Some b → IsBack list (top - 1) cut b.start (starts ++ (b.end + 1) ∷ []) (heads ++ b.start ∷ [])
walk_found list top cut at starts heads b ok h e =
    record {
      taken = h.taken ++ b ∷ [];
      walk = (back_found list top cut at h.taken b ok h.walk e).0;
      starts_are = ap (λ l. l ++ (b.end + 1) ∷ []) h.starts_are ∙ sym (map-append (λ b. b.end + 1) h.taken (b ∷ []));
      heads_are = ap (λ l. l ++ b.start ∷ []) h.heads_are ∙ sym (map-append (λ b. b.start) h.taken (b ∷ []));
    }

-- what was noted, turned round
pub walk_held : (len : ℕ) (list : List LineBreak) (top cut at begin : ℕ) (starts heads pushed turned back : List ℕ) → IsBreakList len list
    → IsBack list top cut at starts heads → cut ≤ len → begin ≡ row_start len list top → begin ≤ at
    → pushed ≡ starts ++ begin ∷ [] → turned ≡ reverse pushed → back ≡ reverse heads → IsHeld len list top cut turned back
walk_held len list top cut at begin starts heads pushed turned back valid h within begins low p t b =
    record {
      kept = reverse h.taken;
      held = turned_held len list top cut at begin starts pushed turned h.taken (reverse h.taken) valid h.walk within begins low h.starts_are p t refl;
      heads_are = b ∙ ap reverse h.heads_are ∙ sym (map_reverse (λ b. b.start) h.taken);
    }
