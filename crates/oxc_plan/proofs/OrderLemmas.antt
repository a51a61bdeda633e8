-- The label order is one: it rises, and its labels of each start stand as given, which leaves no choice.
use Rattle.std.proofs.Common.{◌≡◌, ℕ, zero, suc, ◌<◌, ◌≤◌, Bool, true, false, cond, List, [], ◌∷◌, length, get_or, filter, eqb, ltb, nat_cmp, is_lt, refl, sym, ap, subst, ◌∙◌, arith, inl, inr, suc-le-suc, zero-le, ⊎_elim, All}
use Rattle.std.proofs.lemmas.List.{get_or_past, get_or-map, length-map}
use Rattle.std.proofs.lemmas.List.Elements.{All-map}
use Rattle.std.proofs.lemmas.Bool.{cond-true, cond-false, cases_Bool, ltb-true, ltb-false, eqb-true, cases_lt, eq-eqb}
use Rattle.std.proofs.lemmas.Bool.Decides.{nat_tests}
use Rattle.std.specs.List.Sorted.{ties, IsNonDecreasingBy, IsStableByKey}
use Rattle.oxc_span.specs.declared.span.Span.{Span}
use Rattle.oxc_span.specs.Label.{Label, label_end}
use Rattle.oxc_plan.specs.Order.{AreOrderedSpans, no_label, label_at, start_at, starting_at, places, IsLabelOrder, inserted, ordered, label_order, span_of, spans_in_order}

kept : (p : ℕ → Bool) (y : ℕ) (ys : List ℕ) → p y ≡ true → filter p (y ∷ ys) ≡ y ∷ filter p ys
kept p y ys h = cond-true _ _ _ h

dropped : (p : ℕ → Bool) (y : ℕ) (ys : List ℕ) → p y ≡ false → filter p (y ∷ ys) ≡ filter p ys
dropped p y ys h = cond-false _ _ _ h

-- a place put among others keeps those of each start as they stood, itself first
starting_inserted : (labels : List Label) (start at : ℕ) (list : List ℕ) → starting_at labels start (inserted labels at list) ≡ starting_at labels start (at ∷ list)
unfolding inserted
starting_inserted labels start at [] = refl
starting_inserted labels start at (next ∷ more) =
    let p : ℕ → Bool = λ k. eqb (start_at labels k) start in
    elim (cases_Bool (ltb (start_at labels next) (start_at labels at))) [
      | inr stays ↦ ap (filter p) (cond-false _ _ _ stays)
      | inl past ↦
          ap (filter p) (cond-true _ _ _ past)
          ∙ elim (cases_Bool (p next)) [
            | inr without ↦
                dropped p next (inserted labels at more) without ∙ starting_inserted labels start at more
                ∙ ap (λ l. cond (p at) (at ∷ l) l) (sym (dropped p next more without))
            | inl with ↦
                elim (cases_Bool (p at)) [
                  | inl both ↦ absurd (omega (arith, ltb-true _ _ past, eqb-true _ _ both, eqb-true _ _ with))
                  | inr only ↦
                      kept p next (inserted labels at more) with ∙ ap (λ l. next ∷ l) (starting_inserted labels start at more ∙ dropped p at more only)
                      ∙ sym (dropped p at (next ∷ more) only ∙ kept p next more with)
                ]
          ]
    ]

starting_ordered : (labels : List Label) (start : ℕ) (list : List ℕ) → starting_at labels start (ordered labels list) ≡ starting_at labels start list
unfolding ordered
starting_ordered labels start [] = refl
starting_ordered labels start (at ∷ more) =
    starting_inserted labels start at (ordered labels more)
    ∙ ap (λ l. cond (eqb (start_at labels at) start) (at ∷ l) l) (starting_ordered labels start more)

-- each start is n or more
abbrev AreAtLeast : List Label → ℕ → List ℕ → Type 0
AreAtLeast labels n [] = Unit {0}
AreAtLeast labels n (y ∷ ys) = (n ≤ start_at labels y) × AreAtLeast labels n ys

abbrev Rises : List Label → List ℕ → Type 0
Rises labels [] = Unit {0}
Rises labels (y ∷ ys) = AreAtLeast labels (start_at labels y) ys × Rises labels ys

at_least_le : (labels : List Label) (n m : ℕ) (ys : List ℕ) → n ≤ m → AreAtLeast labels m ys → AreAtLeast labels n ys
at_least_le labels n m [] le h = tt
at_least_le labels n m (y ∷ ys) le h = let first = h.0 in (omega arith, at_least_le labels n m ys le h.1)

at_least_inserted : (labels : List Label) (n at : ℕ) (ys : List ℕ) → n ≤ start_at labels at → AreAtLeast labels n ys → AreAtLeast labels n (inserted labels at ys)
unfolding inserted
at_least_inserted labels n at [] le h = (le, tt)
at_least_inserted labels n at (y ∷ ys) le h =
    elim (cases_Bool (ltb (start_at labels y) (start_at labels at))) [
      | inl past ↦ rw past (h.0, at_least_inserted labels n at ys le h.1)
      | inr stays ↦ rw stays (le, h)
    ]

rises_inserted : (labels : List Label) (at : ℕ) (ys : List ℕ) → Rises labels ys → Rises labels (inserted labels at ys)
unfolding inserted
rises_inserted labels at [] h = (tt, tt)
rises_inserted labels at (y ∷ ys) h =
    elim (cases_Bool (ltb (start_at labels y) (start_at labels at))) [
      | inl past ↦ rw past (at_least_inserted labels (start_at labels y) at ys (omega (arith, ltb-true _ _ past)) h.0, rises_inserted labels at ys h.1)
      | inr stays ↦
          let le : start_at labels at ≤ start_at labels y = ltb-false _ _ stays in
          rw stays ((le, at_least_le labels (start_at labels at) (start_at labels y) ys le h.0), h)
    ]

rises_ordered : (labels : List Label) (list : List ℕ) → Rises labels (ordered labels list)
unfolding ordered
rises_ordered labels [] = tt
rises_ordered labels (at ∷ more) = rises_inserted labels at (ordered labels more) (rises_ordered labels more)

-- rising as std says it
at_least_each : (labels : List Label) (n : ℕ) (ys : List ℕ) → AreAtLeast labels n ys → (j d : ℕ) → j < length ys → n ≤ start_at labels (get_or ys j d)
at_least_each labels n [] h j d lt = absurd (omega arith)
at_least_each labels n (y ∷ ys) h zero d lt = h.0
at_least_each labels n (y ∷ ys) h (suc j) d lt = at_least_each labels n ys h.1 j d (omega arith)

at_least_at : (labels : List Label) (n : ℕ) (ys : List ℕ) → ((j : ℕ) → j < length ys → n ≤ start_at labels (get_or ys j 0)) → AreAtLeast labels n ys
at_least_at labels n [] h = tt
at_least_at labels n (y ∷ ys) h = (h zero (suc-le-suc zero-le), at_least_at labels n ys (λ j lt. h (suc j) (suc-le-suc lt)))

from_rises : (labels : List Label) (ys : List ℕ) → Rises labels ys → IsNonDecreasingBy (start_at labels) ys
from_rises labels [] h i j d le lt = absurd (omega arith)
from_rises labels (y ∷ ys) h zero zero d le lt = omega arith
from_rises labels (y ∷ ys) h zero (suc j) d le lt = at_least_each labels (start_at labels y) ys h.0 j d (omega arith)
from_rises labels (y ∷ ys) h (suc i) zero d le lt = absurd (omega arith)
from_rises labels (y ∷ ys) h (suc i) (suc j) d le lt = from_rises labels ys h.1 i j d (omega arith) (omega arith)

to_rises : (labels : List Label) (ys : List ℕ) → IsNonDecreasingBy (start_at labels) ys → Rises labels ys
to_rises labels [] h = tt
to_rises labels (y ∷ ys) h = (
  at_least_at labels (start_at labels y) ys (λ j lt. h zero (suc j) 0 zero-le (suc-le-suc lt)),
  to_rises labels ys (λ i j d le lt. h (suc i) (suc j) d (suc-le-suc le) (suc-le-suc lt)),
)

-- the label order is one
pub label_order_is : (labels : List Label) → IsLabelOrder labels (label_order labels)
unfolding label_order
label_order_is labels =
    record {
      ascending = from_rises labels (ordered labels (places labels)) (rises_ordered labels (places labels));
      as_given = λ at. starting_ordered labels (start_at labels at) (places labels);
    }

-- where a label with that start stands among labels that start at n or later
start_found : (labels : List Label) (n start : ℕ) (ys : List ℕ) (w : ℕ) (ws : List ℕ) → AreAtLeast labels n ys → starting_at labels start ys ≡ w ∷ ws → n ≤ start
start_found labels n start [] w ws h e = cc
start_found labels n start (y ∷ ys) w ws h e =
    elim (cases_Bool (eqb (start_at labels y) start)) [
      | inl with ↦ omega (arith, h.0, eqb-true _ _ with)
      | inr without ↦ start_found labels n start ys w ws h.1 (sym (dropped (λ k. eqb (start_at labels k) start) y ys without) ∙ e)
    ]

-- lists that rise and have the same labels of each start are the same
same_from_starts : (labels : List Label) (ys zs : List ℕ) → Rises labels ys → Rises labels zs
    → ((at : ℕ) → starting_at labels (start_at labels at) ys ≡ starting_at labels (start_at labels at) zs) → ys ≡ zs
same_from_starts labels [] [] left right same = refl
same_from_starts labels [] (z ∷ zs) left right same =
    let clash = same z ∙ kept (λ k. eqb (start_at labels k) (start_at labels z)) z zs (eq-eqb _ _ refl) in cc
same_from_starts labels (y ∷ ys) [] left right same =
    let clash = sym (same y) ∙ kept (λ k. eqb (start_at labels k) (start_at labels y)) y ys (eq-eqb _ _ refl) in cc
same_from_starts labels (y ∷ ys) (z ∷ zs) left right same =
    let at_y = kept (λ k. eqb (start_at labels k) (start_at labels y)) y ys (eq-eqb _ _ refl) in
    let at_z = kept (λ k. eqb (start_at labels k) (start_at labels z)) z zs (eq-eqb _ _ refl) in
    let up = start_found labels (start_at labels z) (start_at labels y) (z ∷ zs) y _ (omega arith, right.0) (sym (same y) ∙ at_y) in
    let down = start_found labels (start_at labels y) (start_at labels z) (y ∷ ys) z _ (omega arith, left.0) (same z ∙ at_z) in
    let heads = sym at_y ∙ same y ∙ kept (λ k. eqb (start_at labels k) (start_at labels y)) z zs (eq-eqb _ _ (omega arith)) in
    let head : y ≡ z = cc in
    let tails : (at : ℕ) → starting_at labels (start_at labels at) ys ≡ starting_at labels (start_at labels at) zs =
    λ at. let p : ℕ → Bool = λ k. eqb (start_at labels k) (start_at labels at) in
    elim (cases_Bool (p y)) [
      | inl with ↦ let both = sym (kept p y ys with) ∙ same at ∙ kept p z zs (ap p (sym head) ∙ with) in cc
      | inr without ↦ sym (dropped p y ys without) ∙ same at ∙ dropped p z zs (ap p (sym head) ∙ without)
    ] in
    ap (λ w. w ∷ ys) head ∙ ap (λ l. z ∷ l) (same_from_starts labels ys zs left.1 right.1 tails)

pub same_order : (labels : List Label) (xs ys : List ℕ) → IsLabelOrder labels xs → IsLabelOrder labels ys → xs ≡ ys
same_order labels xs ys a b =
    same_from_starts labels xs ys (to_rises labels xs a.ascending) (to_rises labels ys b.ascending) (λ at. a.as_given at ∙ sym (b.as_given at))

-- what a stable sort by start gives
filter_same : (p q : ℕ → Bool) → ((k : ℕ) → p k ≡ q k) → (xs : List ℕ) → filter p xs ≡ filter q xs
filter_same p q same [] = refl
filter_same p q same (x ∷ xs) = rw (same x, filter_same p q same xs) refl

ties_is : (m n : ℕ) → ties (λ x y. is_lt (nat_cmp x y)) m n ≡ eqb n m
ties_is m n = grind (arith, nat_tests)

pub order_from_sort : (labels : List Label) (xs ys : List ℕ) → xs ≡ places labels → IsNonDecreasingBy (start_at labels) ys → IsStableByKey (start_at labels) nat_cmp xs ys → IsLabelOrder labels ys
order_from_sort labels xs ys given rising stable =
    record {
      ascending = rising;
      as_given = λ at.
          let same : (k : ℕ) → ties (λ x y. is_lt (nat_cmp (start_at labels x) (start_at labels y))) at k ≡ eqb (start_at labels k) (start_at labels at) = λ k. ties_is (start_at labels at) (start_at labels k) in
          sym (filter_same _ _ same ys) ∙ stable at ∙ ap (filter _) given ∙ filter_same _ _ same (places labels);
    }

-- the spans in label order ascend by start, and lie where the labels lie
label_within : (len : ℕ) (labels : List Label) → All (λ l. label_end l ≤ len) labels → (at : ℕ) → label_end (label_at labels at) ≤ len
label_within len labels all at =
    ⊎_elim (λ lt. all at no_label lt)
    (λ ge. let past : label_at labels at ≡ no_label = get_or_past labels at no_label ge in omega (arith, ap label_end past))
    (cases_lt at (length labels))

pub spans_valid : (len : ℕ) (labels : List Label) (spans : List Span) → spans ≡ spans_in_order labels → All (λ l. label_end l ≤ len) labels → All (λ s. (s.start ≤ s.end) × (s.end ≤ len)) spans
unfolding spans_in_order
spans_valid len labels spans e all =
    subst (All (λ s. (s.start ≤ s.end) × (s.end ≤ len))) (sym e)
    (All-map (λ s. (s.start ≤ s.end) × (s.end ≤ len)) (λ at. span_of (label_at labels at)) (label_order labels) (λ k d h. (omega arith, label_within len labels all (get_or (label_order labels) k d))))

pub spans_ascend : (labels : List Label) → IsNonDecreasingBy (λ s. s.start) (spans_in_order labels)
unfolding spans_in_order
spans_ascend labels i j d le lt =
    let order = label_order labels in
    let f : ℕ → Span = λ at. span_of (label_at labels at) in
    let short : j < length order = rw length-map at lt in
    omega (arith, ap (λ s. s.start) (get_or-map f order i 0 d (omega arith)), ap (λ s. s.start) (get_or-map f order j 0 d short), (label_order_is labels).ascending i j 0 le short)

pub ordered_spans : (len : ℕ) (labels : List Label) → All (λ l. label_end l ≤ len) labels → AreOrderedSpans len (spans_in_order labels)
ordered_spans len labels all = record { ascend = spans_ascend labels; within = spans_valid len labels (spans_in_order labels) refl all }

-- one label is in order
pub one_in_order : (labels : List Label) (order : List ℕ) → length labels ≡ 1 → order ≡ 0 ∷ [] → order ≡ label_order labels
unfolding label_order ordered inserted
one_in_order [] order one is = absurd (omega (arith, one))
one_in_order (label ∷ []) order one is = is
one_in_order (label ∷ next ∷ more) order one is = absurd (omega (arith, one))
