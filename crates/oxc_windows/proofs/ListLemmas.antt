-- Facts on lists in parts.
use Rattle.std.proofs.Common.{cond, ℕ, ◌≡◌, ◌+◌, ◌-◌, ◌<◌, ◌≤◌, Bool, true, false, List, [], ◌∷◌, ◌++◌, length, drop, get_or, slice_range, All, Some, None, refl, sym, ap, subst, ◌∙◌, arith, zero, suc, count_by, ⊎_elim}
use Rattle.std.specs.List.{find}
use Rattle.std.proofs.lemmas.List.{length-append, get_or_append_left, get_or-append-add, get_or-drop, get_or-take}
use Rattle.std.proofs.lemmas.List.Elements.{All-head, All-tail, All-nil}
use Rattle.std.proofs.lemmas.List.Sums.{sum_by-cons, sum_by-append}
use Rattle.oxc_windows.specs.declared.breaks.LineBreak.{LineBreak}
use Rattle.std.specs.List.Sorted.{IsNonDecreasingBy}
use Rattle.std.proofs.lemmas.Bool.{cases_lt}
use Rattle.oxc_windows.specs.Breaks.{AreBreaks}

pub all_left : {X : Type 0} (P : X → Type 0) (xs ys : List X) → All P (xs ++ ys) → All P xs
all_left P xs ys all = λ k d h. subst P (get_or_append_left xs ys d k h) (all k d (omega (arith, length-append xs ys)))

pub all_right : {X : Type 0} (P : X → Type 0) (xs ys : List X) → All P (xs ++ ys) → All P ys
all_right P xs ys all = λ k d h. subst P (get_or-append-add xs ys k d) (all (length xs + k) d (omega (arith, length-append xs ys)))

pub all_cons : {X : Type 0} (P : X → Type 0) (x : X) (xs : List X) → P x → All P xs → All P (x ∷ xs)
all_cons P x xs here all zero d h = here
all_cons P x xs here all (suc k) d h = all k d (omega arith)

pub all_head : {X : Type 0} (P : X → Type 0) (x : X) (xs : List X) → All P (x ∷ xs) → P x
all_head P x xs all = all 0 x (omega arith)

pub all_weaker : {X : Type 0} (P Q : X → Type 0) (xs : List X) → ((x : X) → P x → Q x) → All P xs → All Q xs
all_weaker P Q xs more all = λ k d h. more _ (all k d h)

pub breaks_right : (xs ys : List LineBreak) → AreBreaks (xs ++ ys) → AreBreaks ys
breaks_right xs ys ok = record {
  shape = all_right (λ b. (b.start ≤ b.end) × (b.end ≤ b.start + 1)) xs ys ok.shape;
  apart = λ i j d lt h.
      subst (λ b. b.end < (get_or ys j d).start) (get_or-append-add xs ys i d)
      (subst (λ c. (get_or (xs ++ ys) (length xs + i) d).end < c.start) (get_or-append-add xs ys j d)
      (ok.apart (length xs + i) (length xs + j) d (omega arith) (omega (arith, length-append xs ys))));
}

pub breaks_left : (xs ys : List LineBreak) → AreBreaks (xs ++ ys) → AreBreaks xs
breaks_left xs ys ok = record {
  shape = all_left (λ b. (b.start ≤ b.end) × (b.end ≤ b.start + 1)) xs ys ok.shape;
  apart = λ i j d lt h.
      subst (λ b. b.end < (get_or xs j d).start) (get_or_append_left xs ys d i (omega arith))
      (subst (λ c. (get_or (xs ++ ys) i d).end < c.start) (get_or_append_left xs ys d j h)
      (ok.apart i j d lt (omega (arith, length-append xs ys))));
}

pub breaks_tail : (b : LineBreak) (more : List LineBreak) → AreBreaks (b ∷ more) → AreBreaks more
breaks_tail b more ok = breaks_right (b ∷ []) more ok

-- all later breaks start after the first ends
pub after_first : (b : LineBreak) (more : List LineBreak) → AreBreaks (b ∷ more) → All (λ c. b.end < c.start) more
after_first b more ok = λ k d h. ok.apart 0 (suc k) d (omega arith) (omega arith)

pub find_skip : {X : Type 0} (p : X → Bool) (xs ys : List X) → All (λ x. p x ≡ false) xs → find p (xs ++ ys) ≡ find p ys
find_skip p [] ys all = refl
find_skip p (x ∷ xs) ys all = rw (All-head (λ y. p y ≡ false) x xs all) (find_skip p xs ys (All-tail (λ y. p y ≡ false) x xs all))

pub find_no : {X : Type 0} (p : X → Bool) (xs : List X) → All (λ x. p x ≡ false) xs → find p xs ≡ None
find_no p [] all = refl
find_no p (x ∷ xs) all = rw (All-head (λ y. p y ≡ false) x xs all) (find_no p xs (All-tail (λ y. p y ≡ false) x xs all))

none_found_at : {X : Type 0} (p : X → Bool) (x : X) (xs : List X) (said : Bool) → p x ≡ said → find p (x ∷ xs) ≡ None
    → (find p xs ≡ None → All (λ y. p y ≡ false) xs) → All (λ y. p y ≡ false) (x ∷ xs)
none_found_at p x xs true e none more = let same : find p (x ∷ xs) ≡ Some x = simp e in let here : Some x ≡ None = sym same ∙ none in cc
none_found_at p x xs false e none more = let same : find p (x ∷ xs) ≡ find p xs = simp e in all_cons (λ y. p y ≡ false) x xs e (more (sym same ∙ none))

pub none_found : {X : Type 0} (p : X → Bool) (xs : List X) → find p xs ≡ None → All (λ x. p x ≡ false) xs
none_found p [] none = All-nil (λ y. p y ≡ false)
none_found p (x ∷ xs) none = none_found_at p x xs (p x) refl none (none_found p xs)

-- all pass, or none
pub count_all : {X : Type 0} (p : X → Bool) (xs : List X) → All (λ x. p x ≡ true) xs → count_by p xs ≡ length xs
count_all p [] all = refl
count_all p (x ∷ xs) all =
    sum_by-cons (λ y. cond (p y) 1 0) x xs ∙ rw (All-head (λ y. p y ≡ true) x xs all) (let rest = count_all p xs (All-tail (λ y. p y ≡ true) x xs all) in omega (arith, rest))

pub count_no : {X : Type 0} (p : X → Bool) (xs : List X) → All (λ x. p x ≡ false) xs → count_by p xs ≡ 0
count_no p [] all = refl
count_no p (x ∷ xs) all =
    sum_by-cons (λ y. cond (p y) 1 0) x xs ∙ rw (All-head (λ y. p y ≡ false) x xs all) (let rest = count_no p xs (All-tail (λ y. p y ≡ false) x xs all) in omega (arith, rest))

-- of a list in three parts, the first passing and the last failing
pub count_parts : {X : Type 0} (p : X → Bool) (xs ys zs : List X) → All (λ x. p x ≡ true) xs → All (λ x. p x ≡ false) zs
    → count_by p (xs ++ (ys ++ zs)) ≡ length xs + count_by p ys
count_parts p xs ys zs pass fail =
    omega (arith, sum_by-append (λ x. cond (p x) 1 0) xs (ys ++ zs), sum_by-append (λ x. cond (p x) 1 0) ys zs, count_all p xs pass, count_no p zs fail)

-- the starts rise
pub rising_starts : (list : List LineBreak) → AreBreaks list → IsNonDecreasingBy (λ b. b.start) list
rising_starts list ok i j d le h =
    ⊎_elim (λ lt. omega (arith, ok.apart i j d lt h, (ok.shape i d (omega (arith, le, h))).0))
    (λ ge. let same : i ≡ j = omega arith in let least : (get_or list i d).start ≤ (get_or list i d).start = omega arith in subst (λ m. (get_or list i d).start ≤ (get_or list m d).start) same least) (cases_lt i j)

pub count_cons : {X : Type 0} (p : X → Bool) (x : X) (xs : List X) → count_by p (x ∷ xs) ≡ cond (p x) 1 0 + count_by p xs
count_cons p x xs = sum_by-cons (λ y. cond (p y) 1 0) x xs

-- the bytes of a part
pub byte_at : (bytes : List ℕ) (from to k : ℕ) → k < to - from → get_or (slice_range bytes from to) k 0 ≡ get_or bytes (from + k) 0
byte_at bytes from to k lt = get_or-take (to - from) (drop from bytes) k 0 lt ∙ get_or-drop from bytes k 0

pub part_at : (bytes : List ℕ) (from to k : ℕ) → from ≤ k → k < to → get_or (slice_range bytes from to) (k - from) 0 ≡ get_or bytes k 0
part_at bytes from to k low high =
    let place : from + (k - from) ≡ k = omega (arith, low) in
    byte_at bytes from to (k - from) (omega (arith, low, high)) ∙ ap (λ i. get_or bytes i 0) place
