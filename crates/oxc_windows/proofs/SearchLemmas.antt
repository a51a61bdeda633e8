-- A search over the bytes finds what a search over the breaks finds.
use Rattle.std.proofs.Common.{cond, count_by, eqb, reverse, ⊎_elim, ap, ◌||◌, ◌≡◌, ℕ, ◌+◌, ◌-◌, ◌<◌, ◌≤◌, ◌&&◌, Bool, true, false, List, [], ◌∷◌, ◌++◌, length, get_or, All, Option, Some, None, refl, sym, subst, ◌∙◌, arith, zero, suc, ltb, leb}
use Rattle.std.specs.List.{find}
use Rattle.std.proofs.lemmas.Bool.Decides.{nat_tests}
use Rattle.std.proofs.lemmas.List.Folds.{find-append}
use Rattle.oxc_windows.specs.declared.breaks.LineBreak.{LineBreak}
use Rattle.oxc_windows.specs.Breaks.{break_at, breaks_before, breaks_of}
use Rattle.oxc_windows.specs.Valid.{breaks_before_found, breaks_before_none, found_there, breaks_start}
use Rattle.oxc_windows.specs.Source.{first_between, last_before}
use Rattle.oxc_windows.specs.Rows.{row_of, is_second_byte}
use Rattle.oxc_windows.specs.Valid.{breaks_before_start}
use Rattle.std.specs.List.{list_any}
use Rattle.std.proofs.lemmas.Bool.{cases_lt, false≢true, and_parts, eqb-true, ltb-true, eq-eqb, le-ltb, lt-ltb}
use Rattle.std.proofs.lemmas.List.{length-append}
use Rattle.oxc_windows.proofs.Counting.{false_unless}
use Rattle.oxc_windows.proofs.BreaksLemmas.{breaks_found}
use Rattle.std.proofs.lemmas.List.{reverse-append}
use Rattle.std.proofs.lemmas.List.Folds.{list_any-append, Any-from_list_any}
use Rattle.std.proofs.lemmas.List.Sums.{sum_by-append}
use Rattle.oxc_windows.proofs.ListLemmas.{count_all, find_no}
use Rattle.oxc_windows.proofs.HeldLemmas.{late}

grow_step : (bytes : List ℕ) (P : List LineBreak → Type 0) (k : ℕ) → ((b : LineBreak) → b.start ≡ k → P (breaks_before bytes k) → P (breaks_before bytes k ++ b ∷ []))
    → (found : Option LineBreak) → break_at bytes k ≡ found → P (breaks_before bytes k) → P (breaks_before bytes (k + 1))
grow_step bytes P k more None e here = subst P (sym (breaks_before_none bytes k e)) here
grow_step bytes P k more (Some b) e here = subst P (sym (breaks_before_found bytes k b e)) (more b (found_there bytes k b e) here)

-- what holds of the breaks before a place holds of those before a later one, if each step keeps it
grow : (bytes : List ℕ) (P : List LineBreak → Type 0) (n : ℕ)
    → ((k : ℕ) (b : LineBreak) → n ≤ k → b.start ≡ k → P (breaks_before bytes k) → P (breaks_before bytes k ++ b ∷ []))
    → P (breaks_before bytes n) → (m : ℕ) → P (breaks_before bytes (n + m))
grow bytes P n more start zero = let same : n ≡ n + 0 = omega arith in subst (λ k. P (breaks_before bytes k)) same start
grow bytes P n more start (suc m) =
    let further : n + m + 1 ≡ n + suc m = omega arith in
    subst (λ k. P (breaks_before bytes k)) further
    (grow_step bytes P (n + m) (λ b at here. more (n + m) b (omega arith) at here) (break_at bytes (n + m)) refl (grow bytes P n more start m))

pub grown : (bytes : List ℕ) (P : List LineBreak → Type 0) (n m : ℕ) → n ≤ m
    → ((k : ℕ) (b : LineBreak) → n ≤ k → b.start ≡ k → P (breaks_before bytes k) → P (breaks_before bytes k ++ b ∷ []))
    → P (breaks_before bytes n) → P (breaks_before bytes m)
grown bytes P n m le more start =
    let sum : n + (m - n) ≡ m = omega arith in
    subst (λ k. P (breaks_before bytes k)) sum (grow bytes P n more start (m - n))

between : ℕ → ℕ → LineBreak → Bool
between from to b = leb from b.start && ltb b.start to

push_none : {X : Type 0} (p : X → Bool) (xs : List X) (x : X) → find p xs ≡ None → p x ≡ false → find p (xs ++ x ∷ []) ≡ None
push_none p xs x none e = find-append p xs (x ∷ []) ∙ rw none (rw e refl)

push_found : {X : Type 0} (p : X → Bool) (xs : List X) (x : X) → find p xs ≡ None → p x ≡ true → find p (xs ++ x ∷ []) ≡ Some x
push_found p xs x none e = find-append p xs (x ∷ []) ∙ rw none (rw e refl)

pub push_kept : {X : Type 0} (p : X → Bool) (xs ys : List X) (x : X) → find p xs ≡ Some x → find p (xs ++ ys) ≡ Some x
push_kept p xs ys x found = find-append p xs ys ∙ rw found refl

-- nothing starts from `from` on before `from`
pub none_before : (bytes : List ℕ) (from to : ℕ) → first_between (breaks_before bytes from) from to ≡ None
unfolding first_between
none_before bytes from to =
    find_no (λ b. leb from b.start && ltb b.start to) (breaks_before bytes from)
    (λ k d h. early from to (get_or (breaks_before bytes from) k d).start (breaks_start bytes from k d h).1)
  where
    early : (from to at : ℕ) → at < from → leb from at && ltb at to ≡ false
    early from to at lt = grind (arith, nat_tests)

-- a place without a break adds nothing
pub none_more : (bytes : List ℕ) (from to at : ℕ) → break_at bytes at ≡ None → first_between (breaks_before bytes at) from to ≡ None → first_between (breaks_before bytes (at + 1)) from to ≡ None
unfolding first_between
none_more bytes from to at e none = rw (breaks_before_none bytes at e) none

inside : (from to at : ℕ) → from ≤ at → at < to → leb from at && ltb at to ≡ true
inside from to at low high = grind (arith, nat_tests)

-- none from `to` on is between
pub none_after : (bytes : List ℕ) (from to at : ℕ) → to ≤ at → to ≤ length bytes → at ≤ to → first_between (breaks_before bytes at) from to ≡ None → first_between (breaks_of bytes) from to ≡ None
unfolding breaks_of first_between
none_after bytes from to at past le upto none =
    grown bytes (λ l. first_between l from to ≡ None) at (length bytes) (omega arith)
    (λ k b low e here. push_none (λ x. leb from x.start && ltb x.start to) (breaks_before bytes k) b here (late from to b.start (omega arith))) none

-- the first that is found stays the first
pub found_first : (bytes : List ℕ) (from to at : ℕ) (b : LineBreak) → from ≤ at → at < to → to ≤ length bytes → break_at bytes at ≡ Some b
    → first_between (breaks_before bytes at) from to ≡ None → first_between (breaks_of bytes) from to ≡ Some b
unfolding breaks_of first_between
found_first bytes from to at b low high le e none =
    let p : LineBreak → Bool = λ x. leb from x.start && ltb x.start to in
    let starts = found_there bytes at b e in
    let here : find p (breaks_before bytes (at + 1)) ≡ Some b =
    subst (λ l. find p l ≡ Some b) (sym (breaks_before_found bytes at b e)) (push_found p (breaks_before bytes at) b none (inside from to b.start (omega arith) (omega arith))) in
    grown bytes (λ l. first_between l from to ≡ Some b) (at + 1) (length bytes) (omega arith)
    (λ k c low e here. push_kept p (breaks_before bytes k) (c ∷ []) b here) here

grow_at_step : (bytes : List ℕ) (P : List LineBreak → Type 0) (k : ℕ) → ((b : LineBreak) → break_at bytes k ≡ Some b → P (breaks_before bytes k) → P (breaks_before bytes k ++ b ∷ []))
    → (found : Option LineBreak) → break_at bytes k ≡ found → P (breaks_before bytes k) → P (breaks_before bytes (k + 1))
grow_at_step bytes P k more None e here = subst P (sym (breaks_before_none bytes k e)) here
grow_at_step bytes P k more (Some b) e here = subst P (sym (breaks_before_found bytes k b e)) (more b e here)

grow_at : (bytes : List ℕ) (P : List LineBreak → Type 0) (n : ℕ)
    → ((k : ℕ) (b : LineBreak) → n ≤ k → break_at bytes k ≡ Some b → P (breaks_before bytes k) → P (breaks_before bytes k ++ b ∷ []))
    → P (breaks_before bytes n) → (m : ℕ) → P (breaks_before bytes (n + m))
grow_at bytes P n more start zero = let same : n ≡ n + 0 = omega arith in subst (λ k. P (breaks_before bytes k)) same start
grow_at bytes P n more start (suc m) =
    let further : n + m + 1 ≡ n + suc m = omega arith in
    subst (λ k. P (breaks_before bytes k)) further
    (grow_at_step bytes P (n + m) (λ b at here. more (n + m) b (omega arith) at here) (break_at bytes (n + m)) refl (grow_at bytes P n more start m))

pub grown_at : (bytes : List ℕ) (P : List LineBreak → Type 0) (n m : ℕ) → n ≤ m
    → ((k : ℕ) (b : LineBreak) → n ≤ k → break_at bytes k ≡ Some b → P (breaks_before bytes k) → P (breaks_before bytes k ++ b ∷ []))
    → P (breaks_before bytes n) → P (breaks_before bytes m)
grown_at bytes P n m le more start =
    let sum : n + (m - n) ≡ m = omega arith in
    subst (λ k. P (breaks_before bytes k)) sum (grow_at bytes P n more start (m - n))

-- a break that the bytes have is one of the list
held_any : (bytes : List ℕ) (to : ℕ) (b : LineBreak) → to ≤ length bytes → break_at bytes b.start ≡ Some b → b.start < to → eqb b.end to && ltb b.start to ≡ true → is_second_byte (breaks_of bytes) to ≡ true
unfolding breaks_of
held_any bytes to b le e lt test =
    let p : LineBreak → Bool = λ c. eqb c.end to && ltb c.start to in
    let here : list_any p (breaks_before bytes (b.start + 1)) ≡ true =
    ap (list_any p) (breaks_before_found bytes b.start b e) ∙ list_any-append p (breaks_before bytes b.start) (b ∷ []) ∙ or_right (list_any p (breaks_before bytes b.start)) (list_any p (b ∷ [])) (one p b test) in
    grown_at bytes (λ l. list_any p l ≡ true) (b.start + 1) (length bytes) (omega (arith, lt, le))
    (λ k c low f here. list_any-append p (breaks_before bytes k) (c ∷ []) ∙ or_left (list_any p (breaks_before bytes k)) (list_any p (c ∷ [])) here) here
  where
    or_right : (a b : Bool) → b ≡ true → a || b ≡ true
    or_right true b e = refl
    or_right false b e = e

    or_left : (a b : Bool) → a ≡ true → a || b ≡ true
    or_left true b e = refl
    or_left false b e = let no_way : false ≡ true = e in cc

    one : {X : Type 0} (p : X → Bool) (x : X) → p x ≡ true → list_any p (x ∷ []) ≡ true
    one p x e = rw e refl

ends_early : (bytes : List ℕ) (to : ℕ) → to ≤ length bytes → is_second_byte (breaks_of bytes) to ≡ false → All (λ b. b.end < to) (breaks_before bytes to)
ends_early bytes to le outside = λ k d h.
    let b = get_or (breaks_before bytes to) k d in
    let at = breaks_start bytes to k d h in
    ⊎_elim (λ lt. lt)
    (λ ge. absurd (false≢true (sym outside ∙ held_any bytes to b le at.0 at.1 (both b.start b.end to at.1 ge (shape_two bytes b at.0)))))
    (cases_lt b.end to)
  where
    shape_two : (bytes : List ℕ) (b : LineBreak) → break_at bytes b.start ≡ Some b → b.end ≤ b.start + 1
    shape_two bytes b e = grind (arith, nat_tests)

    both : (start end to : ℕ) → start < to → to ≤ end → end ≤ start + 1 → eqb end to && ltb start to ≡ true
    both start end to a c d = grind (arith, nat_tests)

-- what a step of the walk back looks at
pub last_none : (bytes : List ℕ) (to at : ℕ) → break_at bytes at ≡ None → breaks_before bytes (at + 1) ≡ breaks_before bytes to → breaks_before bytes at ≡ breaks_before bytes to
last_none bytes to at e same = sym (breaks_before_none bytes at e) ∙ same

shape_of : (bytes : List ℕ) (b : LineBreak) → break_at bytes b.start ≡ Some b → b.start ≤ b.end
shape_of bytes b e = grind (arith, nat_tests)

-- breaks that start at a place or later do not end before it
pub last_upto : (bytes : List ℕ) (to : ℕ) → to ≤ length bytes → last_before (breaks_of bytes) to ≡ last_before (breaks_before bytes to) to
unfolding breaks_of last_before
last_upto bytes to le =
    grown_at bytes (λ l. find (λ b. ltb b.end to) (reverse l) ≡ find (λ b. ltb b.end to) (reverse (breaks_before bytes to))) to (length bytes) le
    (λ k b low e here. ap (find (λ b. ltb b.end to)) (reverse-append (breaks_before bytes k) (b ∷ [])) ∙ skip (λ b. ltb b.end to) b (reverse (breaks_before bytes k)) (le-ltb b.end to (omega (arith, low, found_there bytes k b e, shape_of bytes b (subst (λ m. break_at bytes m ≡ Some b) (sym (found_there bytes k b e)) e)))) ∙ here) refl
  where
    skip : {X : Type 0} (p : X → Bool) (x : X) (xs : List X) → p x ≡ false → find p (x ∷ xs) ≡ find p xs
    skip p x xs e = rw e refl

-- the first that the walk meets is the last
pub last_found : (bytes : List ℕ) (to at : ℕ) (b : LineBreak) → to ≤ length bytes → break_at bytes at ≡ Some b → b.end < to → breaks_before bytes (at + 1) ≡ breaks_before bytes to
    → last_before (breaks_of bytes) to ≡ Some b
unfolding last_before
last_found bytes to at b le e lt same =
    last_upto bytes to le ∙ ap (λ l. last_before l to) (sym same ∙ breaks_before_found bytes at b e) ∙ first_back (breaks_before bytes at) to b lt
  where
    hit : {X : Type 0} (p : X → Bool) (x : X) (xs : List X) → p x ≡ true → find p (x ∷ xs) ≡ Some x
    hit p x xs e = rw e refl

    first_back : (l : List LineBreak) (to : ℕ) (b : LineBreak) → b.end < to → last_before (l ++ b ∷ []) to ≡ Some b
    first_back l to b lt = ap (find (λ b. ltb b.end to)) (reverse-append l (b ∷ [])) ∙ hit (λ b. ltb b.end to) b (reverse l) (lt-ltb b.end to lt)

-- none at all
pub last_missed : (bytes : List ℕ) (to : ℕ) → to ≤ length bytes → breaks_before bytes 0 ≡ breaks_before bytes to → last_before (breaks_of bytes) to ≡ None
unfolding last_before
last_missed bytes to le same = last_upto bytes to le ∙ ap (λ l. last_before l to) (sym same ∙ breaks_before_start bytes) ∙ nothing to
  where
    nothing : (to : ℕ) → last_before [] to ≡ None
    nothing to = refl

-- breaks that end before a place that is not inside a CRLF are those that start before it
pub counted_upto : (bytes : List ℕ) (to : ℕ) → to ≤ length bytes → is_second_byte (breaks_of bytes) to ≡ false → row_of (breaks_of bytes) to ≡ length (breaks_before bytes to)
unfolding breaks_of row_of
counted_upto bytes to le outside =
    grown_at bytes (λ l. count_by (λ b. ltb b.end to) l ≡ length (breaks_before bytes to)) to (length bytes) le
    (λ k b low e here. count_push (λ b. ltb b.end to) (breaks_before bytes k) b (le-ltb b.end to (omega (arith, low, found_there bytes k b e, shape_of bytes b (subst (λ m. break_at bytes m ≡ Some b) (sym (found_there bytes k b e)) e)))) ∙ here)
    (count_all (λ b. ltb b.end to) (breaks_before bytes to) (λ k d h. lt-ltb (get_or (breaks_before bytes to) k d).end to (ends_early bytes to le outside k d h)))
  where
    count_push : {X : Type 0} (p : X → Bool) (xs : List X) (x : X) → p x ≡ false → count_by p (xs ++ x ∷ []) ≡ count_by p xs
    count_push p xs x e = sum_by-append (λ y. cond (p y) 1 0) xs (x ∷ []) ∙ rw e (omega arith)

-- a place inside a CRLF has a break that starts just before it and ends there
pub inside_from : (bytes : List ℕ) (at : ℕ) → is_second_byte (breaks_of bytes) at ≡ true → (b : LineBreak) × (break_at bytes (at - 1) ≡ Some b) × (b.end ≡ at) × (0 < at)
inside_from bytes at e =
    let any = Any-from_list_any (λ b. eqb b.end at && ltb b.start at) (breaks_of bytes) e in
    let parts = and_parts (eqb any.1.end at) (ltb any.1.start at) any.4 in
    let b = get_or (breaks_of bytes) any.0 any.1 in
    let ends : b.end ≡ at = ap (λ b. b.end) any.3 ∙ eqb-true any.1.end at parts.0 in
    let starts : b.start < at = subst (λ b. b.start < at) (sym any.3) (ltb-true any.1.start at parts.1) in
    let found = (breaks_found bytes any.0 any.1 any.2).0 in
    let shape = shape_two bytes b found in
    let place : b.start ≡ at - 1 = omega (arith, ends, starts, shape) in
    (b, subst (λ m. break_at bytes m ≡ Some b) place found, ends, omega (arith, starts))
  where
    shape_two : (bytes : List ℕ) (b : LineBreak) → break_at bytes b.start ≡ Some b → b.end ≤ b.start + 1
    shape_two bytes b e = grind (arith, nat_tests)

pub inside_zero : (bytes : List ℕ) (at : ℕ) → at ≡ 0 → false ≡ is_second_byte (breaks_of bytes) at
inside_zero bytes at e = sym (false_unless (is_second_byte (breaks_of bytes) at) (λ yes_inside. omega (arith, e, (inside_from bytes at yes_inside).3)))

pub inside_none : (bytes : List ℕ) (at : ℕ) → break_at bytes (at - 1) ≡ None → false ≡ is_second_byte (breaks_of bytes) at
inside_none bytes at e = sym (false_unless (is_second_byte (breaks_of bytes) at) (λ yes_inside. let f = inside_from bytes at yes_inside in let both : None ≡ Some f.0 = sym e ∙ f.1 in cc))

pub inside_some : (bytes : List ℕ) (at : ℕ) (b : LineBreak) → break_at bytes (at - 1) ≡ Some b → 0 < at → at ≤ length bytes → eqb b.end at ≡ is_second_byte (breaks_of bytes) at
inside_some bytes at b e low le = by_case bytes at b e low le (eqb b.end at) refl
  where
    test : (start end at : ℕ) → start < at → eqb end at ≡ true → eqb end at && ltb start at ≡ true
    test start end at lt e = grind (arith, nat_tests)

    by_case : (bytes : List ℕ) (at : ℕ) (b : LineBreak) → break_at bytes (at - 1) ≡ Some b → 0 < at → at ≤ length bytes → (said : Bool) → eqb b.end at ≡ said → said ≡ is_second_byte (breaks_of bytes) at
    by_case bytes at b e low le true s =
        let there = found_there bytes (at - 1) b e in
        sym (held_any bytes at b le (subst (λ m. break_at bytes m ≡ Some b) (sym there) e) (omega (arith, there, low)) (test b.start b.end at (omega (arith, there, low)) s))
    by_case bytes at b e low le false s =
        sym (false_unless (is_second_byte (breaks_of bytes) at) (λ yes_inside.
        let f = inside_from bytes at yes_inside in
        let both : Some b ≡ Some f.0 = sym e ∙ f.1 in
        let same : b ≡ f.0 = cc in
        let ends : b.end ≡ at = ap (λ x. x.end) same ∙ f.2 in
        false≢true (sym s ∙ eq-eqb b.end at ends)))

-- a break that starts before a place that is not inside a CRLF ends before it
pub ends_before : (bytes : List ℕ) (to at : ℕ) (b : LineBreak) → to ≤ length bytes → is_second_byte (breaks_of bytes) to ≡ false → break_at bytes at ≡ Some b → at < to → (b.end < to) × (b.start ≡ at)
ends_before bytes to at b le outside e lt =
    let there = found_there bytes at b e in
    let here = subst (λ m. break_at bytes m ≡ Some b) (sym there) e in
    (⊎_elim (λ less. less) (λ ge. absurd (false≢true (sym outside ∙ held_any bytes to b le here (omega (arith, there, lt)) (both b.start b.end to (omega (arith, there, lt)) ge (shape_two bytes b here))))) (cases_lt b.end to), there)
  where
    shape_two : (bytes : List ℕ) (b : LineBreak) → break_at bytes b.start ≡ Some b → b.end ≤ b.start + 1
    shape_two bytes b e = grind (arith, nat_tests)

    both : (start end to : ℕ) → start < to → to ≤ end → end ≤ start + 1 → eqb end to && ltb start to ≡ true
    both start end to a c d = grind (arith, nat_tests)

pub count_some : (bytes : List ℕ) (at : ℕ) (b : LineBreak) → break_at bytes at ≡ Some b → length (breaks_before bytes (at + 1)) ≡ length (breaks_before bytes at) + 1
count_some bytes at b e = let g = ap length (breaks_before_found bytes at b e) in let h = length-append (breaks_before bytes at) (b ∷ []) in omega (arith, g, h)

pub count_none : (bytes : List ℕ) (at : ℕ) → break_at bytes at ≡ None → length (breaks_before bytes (at + 1)) ≡ length (breaks_before bytes at) + 0
count_none bytes at e = let f = ap length (breaks_before_none bytes at e) in omega (arith, f)

pub count_zero : (bytes : List ℕ) → 0 ≡ length (breaks_before bytes 0)
count_zero bytes = sym (ap length (breaks_before_start bytes))

-- the count at the end of the walk
pub count_end : (bytes : List ℕ) (to at n : ℕ) → to ≤ length bytes → is_second_byte (breaks_of bytes) to ≡ false → at ≡ to → n ≡ length (breaks_before bytes at) → n ≡ row_of (breaks_of bytes) to
count_end bytes to at n le outside same e = e ∙ ap (λ k. length (breaks_before bytes k)) same ∙ sym (counted_upto bytes to le outside)
