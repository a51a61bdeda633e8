-- The steps of many reads.
use Rattle.std.proofs.Common.{suc, zero, ◌≡◌, ℕ, ◌+◌, ◌<◌, ◌≤◌, List, [], ◌∷◌, ◌++◌, Option, Some, None, refl, sym, ap, subst, ◌∙◌, arith, ⊎_elim, if◌then◌else◌, All, get_or, drop, length, map, append_assoc}
use Rattle.std.proofs.lemmas.Bool.{cases_lt, le-ltb, lt-ltb}
use Rattle.oxc_span.specs.declared.span.Span.{Span}
use Rattle.oxc_windows.specs.Kept.{first_after}
use Rattle.oxc_windows.specs.Scan.{Scan, IsSameReader, contents_read}
use Rattle.std.proofs.Math.Seq.{drop-cons}
use Rattle.oxc_windows.specs.declared.breaks.LineBreak.{LineBreak}
use Rattle.oxc_windows.specs.declared.window.Window.{Window}
use Rattle.oxc_windows.specs.Window.{window_of}
use Rattle.oxc_windows.specs.Total.{IsNotBefore, IsSpent, TicksAtMost, first_from, windows_of}

pub spent_next : (len base : ℕ) (old new : Option ℕ) (s : Span) (left_old left_new before after : ℕ) → new ≡ first_after len old s.start s.end
    → IsNotBefore len old s → IsSpent len base old left_old before
    → (len < s.end → (left_new ≡ left_old) × (after ≡ before))
    → (s.end ≤ len → old ≡ None → after + left_new ≤ before + len + s.start + 2)
    → ((x : ℕ) → old ≡ Some x → x ≤ s.start → after + left_new ≤ before + left_old)
    → IsSpent len base new left_new after
spent_next len base None new s left_old left_new before after e calm spent refused first later =
    ⊎_elim (λ lt. let same : new ≡ None = e ∙ ap (λ v. if v then None else Some s.start) (lt-ltb len s.end lt) in
    subst (λ f. IsSpent len base f left_new after) (sym same) ((refused lt).1 ∙ spent))
    (λ ge. let same : new ≡ Some s.start = e ∙ ap (λ v. if v then None else Some s.start) (le-ltb len s.end ge) in
    subst (λ f. IsSpent len base f left_new after) (sym same) (omega (arith, first ge refl, spent)))
    (cases_lt len s.end)
spent_next len base (Some x) new s left_old left_new before after e calm spent refused first later =
    subst (λ f. IsSpent len base f left_new after) (sym e)
    (⊎_elim (λ lt. omega (arith, refused lt, spent)) (λ ge. omega (arith, later x refl (calm ge), spent)) (cases_lt len s.end))

-- once it is set it stays
pub first_stays : (len x : ℕ) (spans : List Span) → first_from len (Some x) spans ≡ Some x
unfolding first_from
first_stays len x [] = refl
first_stays len x (s ∷ more) = first_stays len x more

-- so each first on the way is none or the last
pub not_before_now : (len : ℕ) (now total : Option ℕ) (spans : List Span) (s : Span) → first_from len now spans ≡ total → IsNotBefore len total s → IsNotBefore len now s
not_before_now len None total spans s e calm = tt
not_before_now len (Some x) total spans s e calm = subst (λ f. IsNotBefore len f s) (sym e ∙ first_stays len x spans) calm

pub ticks_at_end : (len base : ℕ) (first : Option ℕ) (left steps : ℕ) → IsSpent len base first left steps → TicksAtMost len base first steps
ticks_at_end len base None left steps spent = spent
ticks_at_end len base (Some x) left steps spent = omega (arith, spent)

pub first_step : (len : ℕ) (now next : Option ℕ) (s : Span) (rest all : List Span) → next ≡ first_after len now s.start s.end → all ≡ s ∷ rest → first_from len next rest ≡ first_from len now all
unfolding first_from
first_step len now next s rest all e f = rw (e, f) refl

pub front : (xs : List Span) (i : ℕ) (d : Span) → i < length xs → drop i xs ≡ get_or xs i d ∷ drop (i + 1) xs
front xs i d h = let one_more : suc i ≡ i + 1 = omega arith in drop-cons xs i d h ∙ ap (λ k. get_or xs i d ∷ drop k xs) one_more

-- one item more of a list that is made item by item
pub map_step : {A B : Type 0} (f : A → B) (pushed new all : List B) (w : B) (s : A) (now rest : List A)
    → new ≡ pushed ++ w ∷ [] → w ≡ f s → now ≡ s ∷ rest → pushed ++ map f now ≡ all → new ++ map f rest ≡ all
map_step f pushed new all w s now rest e g h i =
    ap (λ l. l ++ map f rest) e ∙ append_assoc pushed (w ∷ []) (map f rest)
    ∙ ap (λ v. pushed ++ (v ∷ map f rest)) g ∙ ap (λ l. pushed ++ map f l) (sym h) ∙ i

-- the same reader gives the same contents
pub read_same : (old new : Scan) (span : Span) → IsSameReader old new → contents_read new span ≡ contents_read old span
read_same old new span same =
    let input : new.input ≡ old.input = same.input in
    let before : new.before ≡ old.before = same.before in
    let after : new.after ≡ old.after = same.after in
    rw (input, before, after) refl

pub same_then : (one two three : Scan) → IsSameReader one two → IsSameReader two three → IsSameReader one three
same_then one two three a b = record { input = b.input ∙ a.input; before = b.before ∙ a.before; after = b.after ∙ a.after }

pub value_step : (len : ℕ) (list : List LineBreak) (before after : ℕ) (pushed new all : List (Option Window)) (w : Option Window) (s : Span) (now rest : List Span)
    → new ≡ pushed ++ w ∷ [] → w ≡ window_of len list before after s.start s.end → now ≡ s ∷ rest → pushed ++ windows_of len list before after now ≡ all
    → new ++ windows_of len list before after rest ≡ all
value_step len list before after = map_step (λ span. window_of len list before after span.start span.end)

none_left : (xs : List Span) (i : ℕ) → length xs ≤ i → drop i xs ≡ []
none_left [] zero h = refl
none_left [] (suc i) h = refl
none_left (x ∷ xs) zero h = absurd (omega (arith, h))
none_left (x ∷ xs) (suc i) h = none_left xs i (omega (arith, h))

pub total_at_end : (len base i : ℕ) (first total : Option ℕ) (left steps : ℕ) (spans : List Span) → length spans ≤ i → first_from len first (drop i spans) ≡ total
    → IsSpent len base first left steps → TicksAtMost len base total steps
unfolding first_from
total_at_end len base i first total left steps spans h e spent =
    let same : first ≡ total = ap (first_from len first) (sym (none_left spans i h)) ∙ e in
    subst (λ f. TicksAtMost len base f steps) same (ticks_at_end len base first left steps spent)

-- four spans of a text of eight bytes, the first of which starts at 0
pub row_bound : (n base steps : ℕ) (spans : List Span) → n ≡ 8
    → spans ≡ record { start = 0; end = 1 } ∷ record { start = 4; end = 5 } ∷ record { start = 2; end = 3 } ∷ record { start = 6; end = 7 } ∷ []
    → (All (λ s. IsNotBefore n (first_from n None spans) s) spans → TicksAtMost n base (first_from n None spans) steps) → steps ≤ base + 10
unfolding first_from
row_bound n base steps spans e f total =
    let first : first_from n None spans ≡ Some 0 = rw (e, f) refl in
    let ticks = subst (λ o. TicksAtMost n base o steps) first (total (λ k d h. subst (λ o. IsNotBefore n o (get_or spans k d)) (sym first) (λ le. omega arith))) in
    omega (arith, ticks, e)
