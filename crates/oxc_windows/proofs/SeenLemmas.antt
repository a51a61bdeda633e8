-- What an index sees is what the whole list says.
use Rattle.std.proofs.Common.{cond, ◌≡◌, ℕ, ◌+◌, ◌<◌, ◌≤◌, ◌&&◌, ◌||◌, Bool, true, false, List, [], ◌∷◌, ◌++◌, length, map, get_or, All, refl, sym, ap, subst, ◌∙◌, arith, zero, suc, ltb, leb, eqb, count_by, ⊎_elim}
use Rattle.std.specs.List.{list_any}
use Rattle.std.proofs.lemmas.Bool.{cases_lt, le-ltb, lt-ltb}
use Rattle.std.proofs.lemmas.Bool.Decides.{nat_tests}
use Rattle.std.proofs.lemmas.List.{length-append, length-map, get_or-map, get_or_past, get_or_append_left, get_or-append-add}
use Rattle.std.proofs.lemmas.List.Folds.{list_any_none, list_any-append}
use Rattle.std.proofs.lemmas.List.Sums.{sum_by-cons}
use Rattle.oxc_windows.specs.declared.breaks.LineBreak.{LineBreak}
use Rattle.oxc_windows.specs.Breaks.{AreBreaks, IsBreakList}
use Rattle.oxc_windows.specs.Rows.{row_of, row_start, is_second_byte, settled}
use Rattle.oxc_windows.proofs.RowsLemmas.{row_start_after, row_start_past}
use Rattle.oxc_windows.specs.Window.{is_first_byte, is_in_break}
use Rattle.oxc_windows.specs.Held.{Held}
use Rattle.oxc_windows.proofs.ListLemmas.{count_parts, all_right, all_weaker, breaks_left, breaks_right, breaks_tail, after_first, count_no}

-- how many breaks start before a place
unfoldable pub started : List LineBreak → ℕ → ℕ
started list to = count_by (λ b. ltb b.start to) list

-- the shapes of the parts
front_shape : (len : ℕ) (list : List LineBreak) (top known : ℕ) (starts : List ℕ) (kept : List LineBreak) → AreBreaks list
    → (h : Held len list top known starts kept) → All (λ b. (b.start ≤ b.end) × (b.end ≤ b.start + 1)) h.front
front_shape len list top known starts kept ok h = (breaks_left h.front (kept ++ h.rest) (subst AreBreaks h.split ok)).shape

rest_shape : (len : ℕ) (list : List LineBreak) (top known : ℕ) (starts : List ℕ) (kept : List LineBreak) → AreBreaks list
    → (h : Held len list top known starts kept) → All (λ b. (b.start ≤ b.end) × (b.end ≤ b.start + 1)) h.rest
rest_shape len list top known starts kept ok h = (breaks_right kept h.rest (breaks_right h.front (kept ++ h.rest) (subst AreBreaks h.split ok))).shape

rest_within : (len : ℕ) (list : List LineBreak) (top known : ℕ) (starts : List ℕ) (kept : List LineBreak) → IsBreakList len list
    → (h : Held len list top known starts kept) → All (λ b. b.end < len) h.rest
rest_within len list top known starts kept valid h =
    all_right (λ b. b.end < len) kept h.rest (all_right (λ b. b.end < len) h.front (kept ++ h.rest) (subst (λ l. All (λ b. b.end < len) l) h.split valid.within))

pub kept_breaks : (len : ℕ) (list : List LineBreak) (top known : ℕ) (starts : List ℕ) (kept : List LineBreak) → AreBreaks list
    → Held len list top known starts kept → AreBreaks kept
kept_breaks len list top known starts kept ok h = breaks_left kept h.rest (breaks_right h.front (kept ++ h.rest) (subst AreBreaks h.split ok))

-- the row of a known place
pub row_held : (len : ℕ) (list : List LineBreak) (top known : ℕ) (starts : List ℕ) (kept : List LineBreak) (o : ℕ) → AreBreaks list
    → (h : Held len list top known starts kept) → h.begin ≤ o → o ≤ known → row_of list o ≡ top + row_of kept o
unfolding row_of
row_held len list top known starts kept o ok h low high =
    let p : LineBreak → Bool = λ b. ltb b.end o in
    ap (count_by p) h.split
    ∙ count_parts p h.front kept h.rest
    (λ k d q. lt-ltb (get_or h.front k d).end o (omega (arith, low, h.before k d q)))
    (λ k d q. le-ltb (get_or h.rest k d).end o (omega (arith, high, h.ahead k d q, (rest_shape len list top known starts kept ok h k d q).0)))
    ∙ ap (λ n. n + count_by p kept) h.above

-- the breaks that start before a known place
pub started_held : (len : ℕ) (list : List LineBreak) (top known : ℕ) (starts : List ℕ) (kept : List LineBreak) (o : ℕ) → IsBreakList len list
    → (h : Held len list top known starts kept) → h.begin ≤ o → (known < o → known ≡ len) → started list o ≡ top + started kept o
unfolding started
started_held len list top known starts kept o valid h low high =
    let p : LineBreak → Bool = λ b. ltb b.start o in
    ap (count_by p) h.split
    ∙ count_parts p h.front kept h.rest
    (λ k d q. lt-ltb (get_or h.front k d).start o (omega (arith, low, h.before k d q, (front_shape len list top known starts kept valid.ordered h k d q).0)))
    (λ k d q. le-ltb (get_or h.rest k d).start o (unless o known len (get_or h.rest k d).start high (h.ahead k d q)
    (omega (arith, (rest_shape len list top known starts kept valid.ordered h k d q).0, rest_within len list top known starts kept valid h k d q))))
    ∙ ap (λ n. n + count_by p kept) h.above
  where
    unless : (o known len at : ℕ) → (known < o → known ≡ len) → known ≤ at → at < len → o ≤ at
    unless o known len at high low within = ⊎_elim (λ lt. absurd (omega (arith, high lt, low, within))) (λ ge. omega (arith, ge, low)) (cases_lt known o)

any_parts : (p : LineBreak → Bool) (xs ys zs : List LineBreak) → All (λ b. p b ≡ false) xs → All (λ b. p b ≡ false) zs → list_any p (xs ++ (ys ++ zs)) ≡ list_any p ys
any_parts p xs ys zs before after =
    rw (list_any-append p xs (ys ++ zs), list_any_none p xs before, list_any-append p ys zs, list_any_none p zs after) (or_false (list_any p ys))
  where
    or_false : (b : Bool) → b || false ≡ b
    or_false true = refl
    or_false false = refl

-- the LF of a CRLF
pub second_held : (len : ℕ) (list : List LineBreak) (top known : ℕ) (starts : List ℕ) (kept : List LineBreak) (o : ℕ) → AreBreaks list
    → (h : Held len list top known starts kept) → h.begin ≤ o → o ≤ known → is_second_byte list o ≡ is_second_byte kept o
second_held len list top known starts kept o ok h low high =
    let p : LineBreak → Bool = λ b. eqb b.end o && ltb b.start o in
    ap (list_any p) h.split
    ∙ any_parts p h.front kept h.rest
    (λ k d q. ended (get_or h.front k d).start (get_or h.front k d).end o (omega (arith, low, h.before k d q)))
    (λ k d q. begun (get_or h.rest k d).start (get_or h.rest k d).end o (omega (arith, high, h.ahead k d q)))
  where
    ended : (start end at : ℕ) → end < at → eqb end at && ltb start at ≡ false
    ended start end at lt = grind (arith, nat_tests)

    begun : (start end at : ℕ) → at ≤ start → eqb end at && ltb start at ≡ false
    begun start end at le = grind (arith, nat_tests)

pub settled_held : (len : ℕ) (list : List LineBreak) (top known : ℕ) (starts : List ℕ) (kept : List LineBreak) (o : ℕ) → AreBreaks list
    → (h : Held len list top known starts kept) → h.begin ≤ o → o ≤ known → settled list o ≡ settled kept o
unfolding settled
settled_held len list top known starts kept o ok h low high = rw (second_held len list top known starts kept o ok h low high) refl

-- the CR of a CRLF
pub first_held : (len : ℕ) (list : List LineBreak) (top known : ℕ) (starts : List ℕ) (kept : List LineBreak) (last : ℕ) → IsBreakList len list
    → (h : Held len list top known starts kept) → h.begin ≤ last + 1 → (known < last + 1 → known ≡ len) → is_first_byte list last ≡ is_first_byte kept last
first_held len list top known starts kept last valid h low high =
    let p : LineBreak → Bool = λ b. eqb b.start last && eqb b.end (last + 1) in
    ap (list_any p) h.split
    ∙ any_parts p h.front kept h.rest
    (λ k d q. ended (get_or h.front k d).start (get_or h.front k d).end last (omega (arith, low, h.before k d q)))
    (λ k d q. begun (get_or h.rest k d).start (get_or h.rest k d).end last (unless (last + 1) known len (get_or h.rest k d).start high (h.ahead k d q)
    (omega (arith, (rest_shape len list top known starts kept valid.ordered h k d q).0, rest_within len list top known starts kept valid h k d q))))
  where
    ended : (start end at : ℕ) → end < at + 1 → eqb start at && eqb end (at + 1) ≡ false
    ended start end at lt = grind (arith, nat_tests)

    begun : (start end at : ℕ) → at + 1 ≤ start → eqb start at && eqb end (at + 1) ≡ false
    begun start end at le = grind (arith, nat_tests)

    unless : (o known len at : ℕ) → (known < o → known ≡ len) → known ≤ at → at < len → o ≤ at
    unless o known len at high low within = ⊎_elim (λ lt. absurd (omega (arith, high lt, low, within))) (λ ge. omega (arith, ge, low)) (cases_lt known o)

-- the start of a row from the first that is held on
pub start_held : (len : ℕ) (list : List LineBreak) (top known : ℕ) (starts : List ℕ) (kept : List LineBreak) (i : ℕ) → IsBreakList len list
    → (h : Held len list top known starts kept) → (length kept < i → known ≡ len) → row_start len list (top + i) ≡ get_or starts i len
start_held len list top known starts kept zero valid h all =
    let same : top ≡ top + 0 = omega arith in
    subst (λ r. row_start len list r ≡ get_or starts 0 len) same (sym h.begins ∙ sym (ap (λ s. get_or s 0 len) h.starts_are))
start_held len list top known starts kept (suc j) valid h all =
    ⊎_elim (λ lt.
    let d : LineBreak = record { start = 0; end = 0 } in
    let whole : length list ≡ length h.front + (length kept + length h.rest) = ap length h.split ∙ length-append h.front (kept ++ h.rest) ∙ ap (λ n. length h.front + n) (length-append kept h.rest) in
    let there : get_or list (top + j) d ≡ get_or kept j d =
    ap (λ l. get_or l (top + j) d) h.split ∙ ap (λ n. get_or (h.front ++ (kept ++ h.rest)) (n + j) d) (sym h.above)
    ∙ get_or-append-add h.front (kept ++ h.rest) j d ∙ get_or_append_left kept h.rest d j lt in
    let next : suc (top + j) ≡ top + suc j = omega arith in
    subst (λ r. row_start len list r ≡ get_or starts (suc j) len) next
    (row_start_after len list (top + j) d (omega (arith, h.above, lt, whole)) ∙ ap (λ b. b.end + 1) there
    ∙ sym (get_or-map (λ b. b.end + 1) kept j d len lt) ∙ sym (ap (λ s. get_or s (suc j) len) h.starts_are)))
    (λ ge.
    let end : known ≡ len = all (omega (arith, ge)) in
    let whole : length list ≡ length h.front + (length kept + length h.rest) = ap length h.split ∙ length-append h.front (kept ++ h.rest) ∙ ap (λ n. length h.front + n) (length-append kept h.rest) in
    let none : length h.rest ≡ 0 = no_rest len list top known starts kept valid h end in
    row_start_past len list (top + suc j) (omega (arith, h.above, ge, whole, none))
    ∙ sym (ap (λ s. get_or s (suc j) len) h.starts_are ∙ get_or_past (map (λ b. b.end + 1) kept) j len (simp (length-map) ge)))
    (cases_lt j (length kept))
  where
    no_rest : (len : ℕ) (list : List LineBreak) (top known : ℕ) (starts : List ℕ) (kept : List LineBreak) → IsBreakList len list
        → (h : Held len list top known starts kept) → known ≡ len → length h.rest ≡ 0
    no_rest len list top known starts kept valid h end =
        ⊎_elim (λ some.
        let d : LineBreak = record { start = 0; end = 0 } in
        absurd (omega (arith, end, h.ahead 0 d some, (rest_shape len list top known starts kept valid.ordered h 0 d some).0, rest_within len list top known starts kept valid h 0 d some)))
        (λ zero. omega (arith, zero)) (cases_lt 0 (length h.rest))

-- no break of the list starts at the place or before
none_started : (more : List LineBreak) (l : ℕ) → All (λ c. l < c.start) more → AreBreaks more
    → (started more (l + 1) ≡ 0) × (row_of more l ≡ 0) × (is_in_break more l ≡ false)
unfolding started row_of
none_started more l later ok = (
  count_no (λ b. ltb b.start (l + 1)) more (λ k d q. le-ltb (get_or more k d).start (l + 1) (omega (arith, later k d q))),
  count_no (λ b. ltb b.end l) more (λ k d q. le-ltb (get_or more k d).end l (omega (arith, later k d q, (ok.shape k d q).0))),
  list_any_none (λ b. leb b.start l && leb l b.end) more (λ k d q. outside (get_or more k d).start (get_or more k d).end l (later k d q)),
)
  where
    outside : (start end l : ℕ) → l < start → leb start l && leb l end ≡ false
    outside start end l lt = grind (arith, nat_tests)

-- what one break more adds
counted : (b : LineBreak) (more : List LineBreak) (l : ℕ) → (started (b ∷ more) (l + 1) ≡ cond (ltb b.start (l + 1)) 1 0 + started more (l + 1))
    × (row_of (b ∷ more) l ≡ cond (ltb b.end l) 1 0 + row_of more l)
unfolding started row_of
counted b more l = (sum_by-cons (λ c. cond (ltb c.start (l + 1)) 1 0) b more, sum_by-cons (λ c. cond (ltb c.end l) 1 0) b more)

split_cons : (b : LineBreak) (more : List LineBreak) (l : ℕ) → AreBreaks (b ∷ more) → started more (l + 1) ≡ row_of more l + cond (is_in_break more l) 1 0
    → started (b ∷ more) (l + 1) ≡ row_of (b ∷ more) l + cond (is_in_break (b ∷ more) l) 1 0
split_cons b more l ok rest =
    let shape = ok.shape 0 b (omega arith) in
    let add = counted b more l in
    let tail = breaks_tail b more ok in
    let later = after_first b more ok in
    ⊎_elim (λ past.
    let e1 = lt-ltb b.start (l + 1) (omega (arith, past, shape)) in
    let e2 = lt-ltb b.end l past in
    let e3 = over b.start b.end l past in
    add.0 ∙ rw e1 (rw add.1 (rw e2 (rw e3 (omega (arith, rest))))))
    (λ upto. ⊎_elim (λ before.
    let none = none_started more l (all_weaker (λ c. b.end < c.start) (λ c. l < c.start) more (λ c q. omega (arith, q, before, shape)) later) tail in
    add.0 ∙ rw (le-ltb b.start (l + 1) (omega (arith, before))) (rw add.1 (rw (le-ltb b.end l upto) (rw (under b.start b.end l before) (omega (arith, rest))))))
    (λ from.
    let none = none_started more l (all_weaker (λ c. b.end < c.start) (λ c. l < c.start) more (λ c q. omega (arith, q, upto)) later) tail in
    add.0 ∙ rw (lt-ltb b.start (l + 1) (omega (arith, from))) (rw add.1 (rw (le-ltb b.end l upto) (rw (within b.start b.end l from upto) (omega (arith, none.0, none.1))))))
    (cases_lt l b.start))
    (cases_lt b.end l)
  where
    over : (start end l : ℕ) → end < l → leb start l && leb l end ≡ false
    over start end l lt = grind (arith, nat_tests)

    under : (start end l : ℕ) → l < start → leb start l && leb l end ≡ false
    under start end l lt = grind (arith, nat_tests)

    within : (start end l : ℕ) → start ≤ l → l ≤ end → leb start l && leb l end ≡ true
    within start end l low high = grind (arith, nat_tests)

-- the breaks that start at a place or before: those that end before it, and the one that it lies in
pub started_splits : (list : List LineBreak) (l : ℕ) → AreBreaks list → started list (l + 1) ≡ row_of list l + cond (is_in_break list l) 1 0
unfolding started row_of
started_splits [] l ok = refl
started_splits (b ∷ more) l ok = split_cons b more l ok (started_splits more l (breaks_tail b more ok))
