-- What the row starts held, and where their breaks start, say of places is what the breaks held say.
use Rattle.std.proofs.Common.{cond, if◌then◌else◌, ◌≡◌, ℕ, ◌+◌, ◌-◌, ◌<◌, ◌≤◌, ◌&&◌, Bool, true, false, List, [], ◌∷◌, length, map, get_or, All, refl, sym, ap, ◌∙◌, arith, zero, suc, ltb, leb, eqb, count_by, min, ⊎_elim}
use Rattle.std.specs.List.Sorted.{IsNonDecreasing}
use Rattle.std.proofs.lemmas.Bool.{cases_lt, and_parts, eqb-true, ltb-true, ltb-false, false≢true, eq-eqb, le-leb}
use Rattle.std.proofs.lemmas.Bool.Decides.{nat_tests}
use Rattle.std.proofs.lemmas.List.{length-map, get_or-map, get_or_past, get_or_default}
use Rattle.std.proofs.lemmas.List.Folds.{Any-from_list_any, list_any_at}
use Rattle.std.proofs.lemmas.List.Sorted.{IsPartitionedBy-ltb}
use Rattle.oxc_windows.specs.declared.breaks.LineBreak.{LineBreak}
use Rattle.oxc_windows.specs.declared.window.Window.{Window}
use Rattle.oxc_windows.specs.Breaks.{AreBreaks}
use Rattle.oxc_windows.specs.Rows.{row_of, is_second_byte, settled}
use Rattle.oxc_windows.specs.Window.{is_first_byte}
use Rattle.oxc_windows.specs.Held.{IsHeld}
use Rattle.oxc_windows.specs.Seen.{AreInOrder, column_seen, end_seen, heads_before, is_first_seen, is_second_seen, row_seen, seen, settled_seen}
use Rattle.oxc_windows.proofs.Counting.{count_by_splits, false_unless}
use Rattle.oxc_windows.proofs.RowsLemmas.{no_break, second_at, second_past}
use Rattle.oxc_windows.proofs.ListLemmas.{count_cons, rising_starts}
use Rattle.oxc_windows.proofs.BreaksLemmas.{rising_ends}
use Rattle.oxc_windows.proofs.SeenLemmas.{kept_breaks, started}
use Rattle.oxc_windows.proofs.ExactLemmas.{end_by, seen_by}

-- the starts of the rows held, and where their breaks start
pub record AreNoted (begin : ℕ) (kept : List LineBreak) (starts heads : List ℕ) : Type 0 where
  pub shown : starts ≡ begin ∷ map (λ b. b.end + 1) kept
  pub told : heads ≡ map (λ b. b.start) kept
  pub ok : AreBreaks kept
  pub low : All (λ b. begin ≤ b.start) kept

pub noted : (len : ℕ) (list : List LineBreak) (top known : ℕ) (starts heads : List ℕ) → AreBreaks list → (h : IsHeld len list top known starts heads)
    → AreNoted h.held.begin h.kept starts heads
noted len list top known starts heads ok h =
    record { shown = h.held.starts_are; told = h.heads_are; ok = kept_breaks len list top known starts h.kept ok h.held; low = h.held.low }

map_long : (kept : List LineBreak) → (length (map (λ b. b.end + 1) kept) ≡ length kept) × (length (map (λ b. b.start) kept) ≡ length kept)
map_long kept = (simp (length-map) refl, simp (length-map) refl)

pub heads_long : (begin : ℕ) (kept : List LineBreak) (starts heads : List ℕ) → AreNoted begin kept starts heads → length heads ≡ length kept
heads_long begin kept starts heads n = ap length n.told ∙ (map_long kept).1

pub starts_noted_long : (begin : ℕ) (kept : List LineBreak) (starts heads : List ℕ) → AreNoted begin kept starts heads → length starts ≡ length kept + 1
starts_noted_long begin kept starts heads n = let e : length starts ≡ suc (length kept) = ap length n.shown ∙ ap suc (map_long kept).0 in omega (arith, e)

head_at : (begin : ℕ) (kept : List LineBreak) (starts heads : List ℕ) (k e : ℕ) (d : LineBreak) → AreNoted begin kept starts heads → k < length kept → get_or heads k e ≡ (get_or kept k d).start
head_at begin kept starts heads k e d n lt = ap (λ l. get_or l k e) n.told ∙ get_or-map (λ b. b.start) kept k d e lt

start_at : (begin : ℕ) (kept : List LineBreak) (starts heads : List ℕ) (k e : ℕ) (d : LineBreak) → AreNoted begin kept starts heads → k < length kept → get_or starts (k + 1) e ≡ (get_or kept k d).end + 1
start_at begin kept starts heads k e d n lt =
    let next : k + 1 ≡ suc k = omega arith in
    ap (λ i. get_or starts i e) next ∙ ap (λ l. get_or l (suc k) e) n.shown ∙ get_or-map (λ b. b.end + 1) kept k d e lt

start_past : (begin : ℕ) (kept : List LineBreak) (starts heads : List ℕ) (k e : ℕ) → AreNoted begin kept starts heads → length kept ≤ k → get_or starts (k + 1) e ≡ e
start_past begin kept starts heads k e n ge = get_or_past starts (k + 1) e (omega (arith, starts_noted_long begin kept starts heads n, ge))

-- both are in ascending order
pub noted_order : (begin : ℕ) (kept : List LineBreak) (starts heads : List ℕ) → AreNoted begin kept starts heads → AreInOrder starts heads
noted_order begin kept starts heads n = record { rows = starts_rise; breaks = heads_rise }
  where
    heads_rise : IsNonDecreasing heads
    heads_rise i j d le h =
        let long = heads_long begin kept starts heads n in
        let up = rising_starts kept n.ok i j no_break le (omega (arith, h, long)) in
        omega (arith, up, head_at begin kept starts heads i d no_break n (omega (arith, le, h, long)), head_at begin kept starts heads j d no_break n (omega (arith, h, long)))

    first_is : (d : ℕ) → get_or starts 0 d ≡ begin
    first_is d = ap (λ l. get_or l 0 d) n.shown

    next_is : (k d : ℕ) → k < length kept → get_or starts (suc k) d ≡ (get_or kept k no_break).end + 1
    next_is k d lt = ap (λ l. get_or l (suc k) d) n.shown ∙ get_or-map (λ b. b.end + 1) kept k no_break d lt

    rise : (i j d : ℕ) → i ≤ j → j < length kept + 1 → get_or starts i d ≤ get_or starts j d
    rise zero zero d le h = omega arith
    rise zero (suc j) d le h =
        let inside : j < length kept = omega (arith, h) in
        omega (arith, first_is d, next_is j d inside, n.low j no_break inside, (n.ok.shape j no_break inside).0)
    rise (suc i) zero d le h = absurd (omega (arith, le))
    rise (suc i) (suc j) d le h =
        let inside : j < length kept = omega (arith, h) in
        let up = rising_ends kept n.ok i j no_break (omega (arith, le)) inside in
        omega (arith, next_is i d (omega (arith, le, inside)), next_is j d inside, up)

    starts_rise : IsNonDecreasing starts
    starts_rise i j d le h = rise i j d le (omega (arith, h, starts_noted_long begin kept starts heads n))

ends_test : (end o : ℕ) → leb (end + 1) o ≡ ltb end o
ends_test end o = ⊎_elim (λ lt. yes end o lt) (λ ge. no_end end o ge) (cases_lt end o)
  where
    yes : (end o : ℕ) → end < o → leb (end + 1) o ≡ ltb end o
    yes end o lt = grind (arith, nat_tests)

    no_end : (end o : ℕ) → o ≤ end → leb (end + 1) o ≡ ltb end o
    no_end end o ge = grind (arith, nat_tests)

pub count_ends : (kept : List LineBreak) (o : ℕ) → count_by (λ s. leb s o) (map (λ b. b.end + 1) kept) ≡ count_by (λ b. ltb b.end o) kept
count_ends [] o = refl
count_ends (b ∷ kept) o =
    count_cons (λ s. leb s o) (b.end + 1) (map (λ b. b.end + 1) kept) ∙ ap (λ t. cond t 1 0 + count_by (λ s. leb s o) (map (λ b. b.end + 1) kept)) (ends_test b.end o)
    ∙ ap (λ n. cond (ltb b.end o) 1 0 + n) (count_ends kept o) ∙ sym (count_cons (λ b. ltb b.end o) b kept)

count_heads : (kept : List LineBreak) (to : ℕ) → count_by (λ h. ltb h to) (map (λ b. b.start) kept) ≡ count_by (λ b. ltb b.start to) kept
count_heads [] to = refl
count_heads (b ∷ kept) to =
    count_cons (λ h. ltb h to) b.start (map (λ b. b.start) kept) ∙ ap (λ n. cond (ltb b.start to) 1 0 + n) (count_heads kept to) ∙ sym (count_cons (λ b. ltb b.start to) b kept)

-- the row of an offset
pub row_seen_is : (begin : ℕ) (kept : List LineBreak) (starts heads : List ℕ) (o : ℕ) → AreNoted begin kept starts heads → begin ≤ o → row_seen starts o ≡ row_of kept o
unfolding row_seen row_of
row_seen_is begin kept starts heads o n low =
    let one : cond (leb begin o) 1 0 ≡ 1 = ap (λ t. cond t 1 0) (le-leb begin o low) in
    let all = count_cons (λ s. leb s o) begin (map (λ b. b.end + 1) kept) in
    let whole : count_by (λ s. leb s o) starts ≡ 1 + count_by (λ b. ltb b.end o) kept =
    ap (count_by (λ s. leb s o)) n.shown ∙ all ∙ ap (λ c. c + count_by (λ s. leb s o) (map (λ b. b.end + 1) kept)) one ∙ ap (λ c. 1 + c) (count_ends kept o) in
    omega (arith, whole)

-- how many breaks start before a place
pub heads_before_is : (begin : ℕ) (kept : List LineBreak) (starts heads : List ℕ) (to : ℕ) → AreNoted begin kept starts heads → heads_before heads to ≡ started kept to
unfolding heads_before started
heads_before_is begin kept starts heads to n = ap (count_by (λ h. ltb h to)) n.told ∙ count_heads kept to

-- the CR of a CRLF
started_there : (kept : List LineBreak) (k at : ℕ) → AreBreaks kept → k < length kept → (get_or kept k no_break).start ≡ at → started kept at ≡ k
unfolding started
started_there kept k at ok h e =
    let split = count_by_splits (λ b. ltb b.start at) kept (IsPartitionedBy-ltb (λ b. b.start) kept at (rising_starts kept ok)) in
    let r = count_by (λ b. ltb b.start at) kept in
    ⊎_elim (λ lt.
    let late = ltb-false (get_or kept r no_break).start at (split.1 r no_break (omega arith) (omega (arith, lt, h))) in
    absurd (omega (arith, late, e, ok.apart r k no_break lt h, (ok.shape r no_break (omega (arith, lt, h))).0)))
    (λ ge. ⊎_elim (λ lt. absurd (omega (arith, ltb-true (get_or kept k no_break).start at (split.0 k no_break lt), e)))
    (λ le. omega (arith, ge, le)) (cases_lt k r))
    (cases_lt r k)

both_equal : (a b c d : ℕ) → a ≡ b → c ≡ d → eqb a b && eqb c d ≡ true
both_equal a b c d e f = grind (arith, nat_tests)

pub first_seen_is : (begin : ℕ) (kept : List LineBreak) (starts heads : List ℕ) (at : ℕ) → AreNoted begin kept starts heads → is_first_seen starts heads at ≡ is_first_byte kept at
unfolding is_first_seen
first_seen_is begin kept starts heads at n = by_case (is_first_byte kept at) refl
  where
    r : ℕ
    r = heads_before heads at

    by_case : (said : Bool) → is_first_byte kept at ≡ said → eqb (get_or heads r 0) at && eqb (get_or starts (r + 1) 0) (at + 2) ≡ is_first_byte kept at
    by_case true e =
        let found = Any-from_list_any (λ b. eqb b.start at && eqb b.end (at + 1)) kept e in
        let parts = and_parts (eqb found.1.start at) (eqb found.1.end (at + 1)) found.4 in
        let same : get_or kept found.0 no_break ≡ found.1 = get_or_default kept found.0 no_break found.1 found.2 ∙ found.3 in
        let begins : (get_or kept found.0 no_break).start ≡ at = ap (λ b. b.start) same ∙ eqb-true found.1.start at parts.0 in
        let ends : (get_or kept found.0 no_break).end ≡ at + 1 = ap (λ b. b.end) same ∙ eqb-true found.1.end (at + 1) parts.1 in
        let place : r ≡ found.0 = heads_before_is begin kept starts heads at n ∙ started_there kept found.0 at n.ok found.2 begins in
        let one : get_or heads r 0 ≡ at = ap (λ k. get_or heads k 0) place ∙ head_at begin kept starts heads found.0 0 no_break n found.2 ∙ begins in
        let two : get_or starts (r + 1) 0 ≡ at + 2 = ap (λ k. get_or starts (k + 1) 0) place ∙ start_at begin kept starts heads found.0 0 no_break n found.2 ∙ (let s : (get_or kept found.0 no_break).end + 1 ≡ at + 2 = omega (arith, ends) in s) in
        both_equal _ _ _ _ one two ∙ sym e
    by_case false e =
        false_unless (eqb (get_or heads r 0) at && eqb (get_or starts (r + 1) 0) (at + 2)) (λ yes_both.
        let parts = and_parts (eqb (get_or heads r 0) at) (eqb (get_or starts (r + 1) 0) (at + 2)) yes_both in
        let one = eqb-true (get_or heads r 0) at parts.0 in
        let two = eqb-true (get_or starts (r + 1) 0) (at + 2) parts.1 in
        ⊎_elim (λ lt.
        let begins = head_at begin kept starts heads r 0 no_break n lt in
        let ends = start_at begin kept starts heads r 0 no_break n lt in
        false≢true (sym e ∙ list_any_at (λ b. eqb b.start at && eqb b.end (at + 1)) kept r no_break lt (both_equal _ _ _ _ (sym begins ∙ one) (omega (arith, ends, two)))))
        (λ ge. let none = start_past begin kept starts heads r 0 n ge in omega (arith, none, two))
        (cases_lt r (length kept)))
        ∙ sym e

-- the LF of a CRLF
same_test : (end o start : ℕ) → eqb (end + 1) (o + 1) && ltb start o ≡ eqb end o && ltb start o
same_test end o start = ap (λ t. t && ltb start o) (by_case (eqb end o) refl)
  where
    by_case : (said : Bool) → eqb end o ≡ said → eqb (end + 1) (o + 1) ≡ eqb end o
    by_case true e = eq-eqb (end + 1) (o + 1) (omega (arith, eqb-true end o e)) ∙ sym e
    by_case false e = false_unless (eqb (end + 1) (o + 1)) (λ same. let f : end ≡ o = omega (arith, eqb-true (end + 1) (o + 1) same) in false≢true (sym e ∙ eq-eqb end o f)) ∙ sym e

pub second_seen_is : (begin : ℕ) (kept : List LineBreak) (starts heads : List ℕ) (o : ℕ) → AreNoted begin kept starts heads → begin ≤ o → is_second_seen starts heads o ≡ is_second_byte kept o
unfolding is_second_seen
second_seen_is begin kept starts heads o n low =
    let place = row_seen_is begin kept starts heads o n low in
    ap (λ r. eqb (get_or starts (r + 1) 0) (o + 1) && ltb (get_or heads r 0) o) place
    ∙ ⊎_elim (λ lt.
    let d = no_break in
    let k = row_of kept o in
    ap (λ v. eqb v (o + 1) && ltb (get_or heads k 0) o) (start_at begin kept starts heads k 0 d n lt)
    ∙ ap (λ v. eqb ((get_or kept k d).end + 1) (o + 1) && ltb v o) (head_at begin kept starts heads k 0 d n lt)
    ∙ same_test (get_or kept k d).end o (get_or kept k d).start
    ∙ sym (second_at kept o d n.ok lt _ refl))
    (λ ge.
    ap (λ v. eqb v (o + 1) && ltb (get_or heads (row_of kept o) 0) o) (start_past begin kept starts heads (row_of kept o) 0 n ge)
    ∙ never o (ltb (get_or heads (row_of kept o) 0) o) ∙ sym (second_past kept o n.ok ge))
    (cases_lt (row_of kept o) (length kept))
  where
    zero_not : (o : ℕ) → eqb 0 (o + 1) ≡ false
    zero_not o = grind (arith, nat_tests)

    never : (o : ℕ) (b : Bool) → eqb 0 (o + 1) && b ≡ false
    never o b = ap (λ t. t && b) (zero_not o)

pub settled_seen_is : (begin : ℕ) (kept : List LineBreak) (starts heads : List ℕ) (o : ℕ) → AreNoted begin kept starts heads → begin ≤ o → settled_seen starts heads o ≡ settled kept o
unfolding settled_seen settled
settled_seen_is begin kept starts heads o n low = ap (λ t. if t then o - 1 else o) (second_seen_is begin kept starts heads o n low)

-- where the window ends
pub end_seen_is : (len begin : ℕ) (kept : List LineBreak) (starts heads : List ℕ) (after end : ℕ) → AreNoted begin kept starts heads → end_seen len starts heads after end ≡ end_by len starts kept after end
unfolding end_seen end_by
end_seen_is len begin kept starts heads after end n =
    ap (λ t. if eqb after 0 then (if t then end - 1 + 2 else min len (end - 1 + 1)) else get_or starts (heads_before heads (end - 1 + 1) + after + 1) len) (first_seen_is begin kept starts heads (end - 1) n)
    ∙ ap (λ c. if eqb after 0 then (if is_first_byte kept (end - 1) then end - 1 + 2 else min len (end - 1 + 1)) else get_or starts (c + after + 1) len) (heads_before_is begin kept starts heads (end - 1 + 1) n)

column_seen_is : (len begin : ℕ) (kept : List LineBreak) (starts heads : List ℕ) (o : ℕ) → AreNoted begin kept starts heads → begin ≤ o
    → column_seen len starts heads o ≡ settled kept o - get_or starts (row_of kept o) len
unfolding column_seen
column_seen_is len begin kept starts heads o n low =
    ap (λ v. v - get_or starts (row_seen starts o) len) (settled_seen_is begin kept starts heads o n low)
    ∙ ap (λ r. settled kept o - get_or starts r len) (row_seen_is begin kept starts heads o n low)

abbrev made : ℕ → ℕ → ℕ → ℕ → ℕ → Window
made a b c d e = record { begin = a; end = b; line = c; column = d; line_count = e }

same_made : (a b c d e a' b' c' d' e' : ℕ) → a ≡ a' → b ≡ b' → c ≡ c' → d ≡ d' → e ≡ e' → made a b c d e ≡ made a' b' c' d' e'
same_made a b c d e a' b' c' d' e' p q r s t =
    ap (λ v. made v b c d e) p ∙ ap (λ v. made a' v c d e) q ∙ ap (λ v. made a' b' v d e) r ∙ ap (λ v. made a' b' c' v e) s ∙ ap (λ v. made a' b' c' d' v) t

-- the window
pub seen_is : (len top begin : ℕ) (kept : List LineBreak) (starts heads : List ℕ) (before after start end : ℕ) → AreNoted begin kept starts heads → begin ≤ start
    → begin ≤ end_by len starts kept after end → seen len top starts heads before after start end ≡ seen_by len top starts kept before after start end
unfolding seen seen_by
seen_is len top begin kept starts heads before after start end n low stop =
    let place = row_seen_is begin kept starts heads start n low in
    let ends = end_seen_is len begin kept starts heads after end n in
    let count : row_seen starts (end_seen len starts heads after end) ≡ row_of kept (end_by len starts kept after end) =
    ap (row_seen starts) ends ∙ row_seen_is begin kept starts heads (end_by len starts kept after end) n stop in
    same_made _ _ _ _ _ _ _ _ _ _
    (ap (λ r. if eqb before 0 then start else get_or starts (top + r - before - top) len) place)
    ends
    (ap (λ r. top + r - before) place)
    (ap (λ v. if eqb before 0 then v else 0) (column_seen_is len begin kept starts heads start n low))
    (ap (λ r. top + r) count)

-- a number past all places may be cut
pub seen_saturated : (starts : List ℕ) (after below len most : ℕ) → length starts ≤ most → get_or starts (min (after + below) most) len ≡ get_or starts (after + below) len
seen_saturated starts after below len most h =
    ⊎_elim (λ small. ap (λ i. get_or starts i len) (least (after + below) most small))
    (λ far. get_or_past starts (min (after + below) most) len (upper (after + below) most (length starts) h far) ∙ sym (get_or_past starts (after + below) len (omega (arith, far, h)))) (cases_lt (after + below) most)
  where
    least : (a b : ℕ) → a < b → min a b ≡ a
    least a b h = omega (arith, h)

    upper : (a b c : ℕ) → c ≤ b → b ≤ a → c ≤ min a b
    upper a b c h g = omega (arith, h, g)
