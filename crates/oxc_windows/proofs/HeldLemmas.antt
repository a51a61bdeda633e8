-- What an index holds, one search further.
use Rattle.std.proofs.Common.{append_assoc, ◌≡◌, ℕ, ◌+◌, ◌<◌, ◌≤◌, ◌&&◌, Bool, true, false, List, [], ◌∷◌, ◌++◌, get_or, All, Some, None, refl, sym, ap, subst, ◌∙◌, arith, ltb, leb, eqb}
use Rattle.std.specs.List.{find}
use Rattle.std.proofs.lemmas.Bool.Decides.{nat_tests}
use Rattle.oxc_windows.specs.declared.breaks.LineBreak.{LineBreak}
use Rattle.oxc_windows.specs.Breaks.{AreBreaks, IsBreakList}
use Rattle.oxc_windows.specs.Source.{first_between}
use Rattle.oxc_windows.specs.Held.{Held, IsHeld}
use Rattle.oxc_windows.proofs.ListLemmas.{find_skip, find_no, all_right, all_head, all_weaker, breaks_left, breaks_right, after_first, none_found}
use Rattle.std.proofs.lemmas.List.{map-append}
use Rattle.std.proofs.lemmas.List.Folds.{list_any_none}
use Rattle.std.proofs.lemmas.List.Elements.{All-push, All-append}
use Rattle.oxc_windows.specs.Rows.{is_second_byte}

-- a test of a break that starts too early
early : (from to at : ℕ) → at < from → leb from at && ltb at to ≡ false
early from to at lt = grind (arith, nat_tests)

pub late : (from to at : ℕ) → to ≤ at → leb from at && ltb at to ≡ false
late from to at le = grind (arith, nat_tests)

between_from : (from to at : ℕ) → from ≤ at → leb from at && ltb at to ≡ false → to ≤ at
between_from from to at low e = grind (arith, nat_tests)

-- a search from the known place looks at the rest alone
pub only_rest : (len : ℕ) (list : List LineBreak) (top known to : ℕ) (starts : List ℕ) (kept : List LineBreak) → AreBreaks list
    → (h : Held len list top known starts kept) → first_between list known to ≡ find (λ b. leb known b.start && ltb b.start to) h.rest
unfolding first_between
only_rest len list top known to starts kept ok h =
    let p : LineBreak → Bool = λ b. leb known b.start && ltb b.start to in
    let parts = subst AreBreaks h.split ok in
    let front : All (λ b. p b ≡ false) h.front =
    λ k d q. early known to (get_or h.front k d).start (omega (arith, h.before k d q, h.ordered, ((breaks_left h.front (kept ++ h.rest) parts).shape k d q).0)) in
    let own : All (λ b. p b ≡ false) kept =
    λ k d q. early known to (get_or kept k d).start (omega (arith, h.high k d q, ((breaks_left kept h.rest (breaks_right h.front (kept ++ h.rest) parts)).shape k d q).0)) in
    ap (find p) h.split ∙ find_skip p h.front (kept ++ h.rest) front ∙ find_skip p kept h.rest own

next_at : (known to : ℕ) (b c : LineBreak) (more : List LineBreak) (said : Bool) → leb known c.start && ltb c.start to ≡ said → known ≤ c.start → AreBreaks (c ∷ more)
    → find (λ b. leb known b.start && ltb b.start to) (c ∷ more) ≡ Some b → c ≡ b
next_at known to b c more true e low ok found =
    let same : find (λ b. leb known b.start && ltb b.start to) (c ∷ more) ≡ Some c = simp e in let both : Some c ≡ Some b = sym same ∙ found in cc
next_at known to b c more false e low ok found =
    let p : LineBreak → Bool = λ b. leb known b.start && ltb b.start to in
    let past = between_from known to c.start low e in
    let later : All (λ b. p b ≡ false) more = λ k d q. late known to (get_or more k d).start (omega (arith, past, after_first c more ok k d q, (ok.shape 0 c (omega arith)).0)) in
    let same : find p (c ∷ more) ≡ find p more = simp e in
    let both : None ≡ Some b = sym (find_no p more later) ∙ sym same ∙ found in
    cc

-- what the search finds is the next of the rest
pub next_of_rest : (known to : ℕ) (b : LineBreak) (rest : List LineBreak) → AreBreaks rest → All (λ b. known ≤ b.start) rest
    → find (λ b. leb known b.start && ltb b.start to) rest ≡ Some b → (more : List LineBreak) × (rest ≡ b ∷ more)
next_of_rest known to b [] ok ahead found = let both : None ≡ Some b = found in cc
next_of_rest known to b (c ∷ more) ok ahead found =
    (more, ap (λ x. x ∷ more) (next_at known to b c more (leb known c.start && ltb c.start to) refl (ahead 0 c (omega arith)) ok found))

-- a break that was found is held, and known is the place after it
pub held_found : (len : ℕ) (list : List LineBreak) (top known to : ℕ) (starts : List ℕ) (kept : List LineBreak) (b : LineBreak) → IsBreakList len list
    → Held len list top known starts kept → first_between list known to ≡ Some b
    → Held len list top (b.end + 1) (starts ++ (b.end + 1) ∷ []) (kept ++ b ∷ [])
held_found len list top known to starts kept b valid h found =
    let ok = subst AreBreaks h.split valid.ordered in
    let rest_ok = breaks_right kept h.rest (breaks_right h.front (kept ++ h.rest) ok) in
    let next = next_of_rest known to b h.rest rest_ok h.ahead (sym (only_rest len list top known to starts kept valid.ordered h) ∙ found) in
    let tail_ok = subst AreBreaks next.1 rest_ok in
    let here : known ≤ b.start = all_head (λ b. known ≤ b.start) b next.0 (subst (λ l. All (λ b. known ≤ b.start) l) next.1 h.ahead) in
    let shape = tail_ok.shape 0 b (omega arith) in
    let inside : All (λ b. b.end < len) (h.front ++ (kept ++ b ∷ next.0)) = subst (λ l. All (λ b. b.end < len) l) (h.split ∙ ap (λ r. h.front ++ (kept ++ r)) next.1) valid.within in
    let last : b.end < len = all_head (λ b. b.end < len) b next.0 (all_right (λ b. b.end < len) kept (b ∷ next.0) (all_right (λ b. b.end < len) h.front (kept ++ b ∷ next.0) inside)) in
    record {
      front = h.front;
      rest = next.0;
      begin = h.begin;
      split = h.split ∙ ap (λ r. h.front ++ (kept ++ r)) next.1 ∙ ap (λ r. h.front ++ r) (sym (append_assoc kept (b ∷ []) next.0));
      above = h.above;
      begins = h.begins;
      before = h.before;
      low = All-push (λ b. h.begin ≤ b.start) kept b h.low (omega (arith, h.ordered, here));
      high = All-push (λ c. c.end < b.end + 1) kept b (all_weaker (λ c. c.end < known) (λ c. c.end < b.end + 1) kept (λ c q. omega (arith, q, here, shape)) h.high) (omega arith);
      ahead = all_weaker (λ c. b.end < c.start) (λ c. b.end + 1 ≤ c.start) next.0 (λ c q. omega (arith, q)) (after_first b next.0 tail_ok);
      ordered = omega (arith, h.ordered, here, shape);
      within = omega (arith, last);
      starts_are = ap (λ s. s ++ (b.end + 1) ∷ []) h.starts_are ∙ ap (λ s. h.begin ∷ s) (sym (map-append (λ b. b.end + 1) kept (b ∷ [])));
    }

-- none was found up to a place, which is then known
pub held_none : (len : ℕ) (list : List LineBreak) (top known to : ℕ) (starts : List ℕ) (kept : List LineBreak) → IsBreakList len list
    → Held len list top known starts kept → first_between list known to ≡ None → known ≤ to → to ≤ len
    → Held len list top to starts kept
held_none len list top known to starts kept valid h none le within =
    let no = none_found (λ b. leb known b.start && ltb b.start to) h.rest (sym (only_rest len list top known to starts kept valid.ordered h) ∙ none) in
    record {
      front = h.front;
      rest = h.rest;
      begin = h.begin;
      split = h.split;
      above = h.above;
      begins = h.begins;
      before = h.before;
      low = h.low;
      high = all_weaker (λ c. c.end < known) (λ c. c.end < to) kept (λ c q. omega (arith, q, le)) h.high;
      ahead = λ k d q. between_from known to (get_or h.rest k d).start (h.ahead k d q) (no k d q);
      ordered = omega (arith, h.ordered, le);
      within = within;
      starts_are = h.starts_are;
    }

-- where the search may begin
pub held_outside : (len : ℕ) (list : List LineBreak) (top known : ℕ) (starts : List ℕ) (kept : List LineBreak) → AreBreaks list
    → Held len list top known starts kept → is_second_byte list known ≡ false
held_outside len list top known starts kept ok h =
    let p : LineBreak → Bool = λ b. eqb b.end known && ltb b.start known in
    list_any_none p list
    (subst (λ l. All (λ b. p b ≡ false) l) (sym h.split)
    (All-append (λ b. p b ≡ false) h.front (kept ++ h.rest) (λ k d q. ended (get_or h.front k d).start (get_or h.front k d).end known (omega (arith, h.before k d q, h.ordered)))
    (All-append (λ b. p b ≡ false) kept h.rest (λ k d q. ended (get_or kept k d).start (get_or kept k d).end known (h.high k d q))
    (λ k d q. begun (get_or h.rest k d).start (get_or h.rest k d).end known (h.ahead k d q)))))
  where
    ended : (start end at : ℕ) → end < at → eqb end at && ltb start at ≡ false
    ended start end at lt = grind (arith, nat_tests)

    begun : (start end at : ℕ) → at ≤ start → eqb end at && ltb start at ≡ false
    begun start end at le = grind (arith, nat_tests)

-- where a break that was found stands
pub found_end : (len : ℕ) (list : List LineBreak) (top known to : ℕ) (starts : List ℕ) (kept : List LineBreak) (b : LineBreak) → IsBreakList len list
    → Held len list top known starts kept → first_between list known to ≡ Some b → (known < b.end + 1) × (b.end < len) × (b.start ≤ b.end)
found_end len list top known to starts kept b valid h found =
    let ok = subst AreBreaks h.split valid.ordered in
    let rest_ok = breaks_right kept h.rest (breaks_right h.front (kept ++ h.rest) ok) in
    let next = next_of_rest known to b h.rest rest_ok h.ahead (sym (only_rest len list top known to starts kept valid.ordered h) ∙ found) in
    let here : known ≤ b.start = all_head (λ b. known ≤ b.start) b next.0 (subst (λ l. All (λ b. known ≤ b.start) l) next.1 h.ahead) in
    let tail_ok = subst AreBreaks next.1 rest_ok in
    let inside : All (λ b. b.end < len) (h.front ++ (kept ++ b ∷ next.0)) = subst (λ l. All (λ b. b.end < len) l) (h.split ∙ ap (λ r. h.front ++ (kept ++ r)) next.1) valid.within in
    let last : b.end < len = all_head (λ b. b.end < len) b next.0 (all_right (λ b. b.end < len) kept (b ∷ next.0) (all_right (λ b. b.end < len) h.front (kept ++ b ∷ next.0) inside)) in
    (omega (arith, here, (tail_ok.shape 0 b (omega arith)).0), last, (tail_ok.shape 0 b (omega arith)).0)

-- the same of what is noted of the breaks held
pub held_after : (len : ℕ) (list : List LineBreak) (top known to : ℕ) (starts heads : List ℕ) (b : LineBreak) → IsBreakList len list → IsHeld len list top known starts heads
    → first_between list known to ≡ Some b → IsHeld len list top (b.end + 1) (starts ++ (b.end + 1) ∷ []) (heads ++ b.start ∷ [])
held_after len list top known to starts heads b valid h found =
    record {
      kept = h.kept ++ b ∷ [];
      held = held_found len list top known to starts h.kept b valid h.held found;
      heads_are = ap (λ l. l ++ b.start ∷ []) h.heads_are ∙ sym (map-append (λ b. b.start) h.kept (b ∷ []));
    }

pub held_upto : (len : ℕ) (list : List LineBreak) (top known to : ℕ) (starts heads : List ℕ) → IsBreakList len list → IsHeld len list top known starts heads
    → first_between list known to ≡ None → known ≤ to → to ≤ len → IsHeld len list top to starts heads
held_upto len list top known to starts heads valid h none le within =
    record { kept = h.kept; held = held_none len list top known to starts h.kept valid h.held none le within; heads_are = h.heads_are }
