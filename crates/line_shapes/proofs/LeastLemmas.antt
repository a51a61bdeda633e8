-- The place that is found is the least that fits.
use Rattle.std.proofs.Common.{◌≡◌, ℕ, zero, suc, ◌-◌, ◌<◌, if◌then◌else◌, List, [], ◌∷◌, length, Option, Some, None, Bool, true, false, refl, sym, ◌∙◌, ap, arith}
use Rattle.std.specs.List.{range_with_len}
use Rattle.std.specs.Option.{option_or, option_map, option_and_then}
use Rattle.line_shapes.specs.declared.part.Part.{Part}
use Rattle.line_shapes.specs.Part.{Seen, before, fit}
use Rattle.line_shapes.specs.declared.name.NameKind.{NameKind}
use Rattle.line_shapes.specs.Name.{is_name}
use Rattle.line_shapes.specs.Place.{Place, afters, first_some, in_lead, leads, named, place, placed_at}
use Rattle.line_shapes.specs.Least.{IsLeast, IsLeastPlace, after_fits, fits_at, lead_fits, name_fits, pick}

-- where nothing is found, nothing is at any number
nothing_by : {A B : Type 0} (f : A → Option B) (x : A) (xs : List A) (o : Option B) → f x ≡ o → (first_some f xs ≡ None → (k : ℕ) → pick f xs k ≡ None) → option_or o (first_some f xs) ≡ None → (k : ℕ) → pick f (x ∷ xs) k ≡ None
nothing_by f x xs (Some y) is later none k = cc
nothing_by f x xs None is later none zero = is
nothing_by f x xs None is later none (suc k) = later none k

nothing : {A B : Type 0} (f : A → Option B) (xs : List A) → first_some f xs ≡ None → (k : ℕ) → pick f xs k ≡ None
nothing f [] none k = refl
nothing f (x ∷ xs) none k = nothing_by f x xs (f x) refl (nothing f xs) none k

-- what is found is the first
record FirstAt {A B : Type 0} (f : A → Option B) (xs : List A) (y : B) : Type 0 where
  index : ℕ
  is : pick f xs index ≡ Some y
  earlier : (j : ℕ) → j < index → pick f xs j ≡ None

earlier_more : {A B : Type 0} (f : A → Option B) (x : A) (xs : List A) (n : ℕ) → f x ≡ None → ((j : ℕ) → j < n → pick f xs j ≡ None) → (j : ℕ) → j < suc n → pick f (x ∷ xs) j ≡ None
earlier_more f x xs n none nones zero low = none
earlier_more f x xs n none nones (suc j) low = nones j (omega arith)

first_by : {A B : Type 0} (f : A → Option B) (x : A) (xs : List A) (y : B) (o : Option B) → f x ≡ o → (first_some f xs ≡ Some y → FirstAt f xs y) → option_or o (first_some f xs) ≡ Some y → FirstAt f (x ∷ xs) y
first_by f x xs y (Some z) is later e = record { index = zero; is = is ∙ e; earlier = λ j low. absurd (omega arith) }
first_by f x xs y None is later e = let r : FirstAt f xs y = later e in record { index = suc r.index; is = r.is; earlier = earlier_more f x xs r.index is r.earlier }

first_at : {A B : Type 0} (f : A → Option B) (xs : List A) (y : B) → first_some f xs ≡ Some y → FirstAt f xs y
first_at f [] y e = cc
first_at f (x ∷ xs) y e = first_by f x xs y (f x) refl (first_at f xs y) e

-- the item of a number
record ItemAt {A B : Type 0} (f : A → Option B) (xs : List A) (k : ℕ) (y : B) : Type 0 where
  item : A
  gives : f item ≡ Some y
  same : (g : A → Option B) → pick g xs k ≡ g item

item_at : {A B : Type 0} (f : A → Option B) (xs : List A) (k : ℕ) (y : B) → pick f xs k ≡ Some y → ItemAt f xs k y
item_at f [] k y e = cc
item_at f (x ∷ xs) zero y e = record { item = x; gives = e; same = λ g. refl }
item_at f (x ∷ xs) (suc k) y e = let r : ItemAt f xs k y = item_at f xs k y e in record { item = r.item; gives = r.gives; same = r.same }

none_too : {A B C : Type 0} (f : A → Option B) (g : A → Option C) → ((x : A) → f x ≡ None → g x ≡ None) → (xs : List A) (k : ℕ) → pick f xs k ≡ None → pick g xs k ≡ None
none_too f g less [] k none = refl
none_too f g less (x ∷ xs) zero none = less x none
none_too f g less (x ∷ xs) (suc k) none = none_too f g less xs k none

-- what gives something
record Through {A B : Type 0} (f : A → Option B) (o : Option A) (y : B) : Type 0 where
  inner : A
  was : o ≡ Some inner
  gives : f inner ≡ Some y

through : {A B : Type 0} (f : A → Option B) (o : Option A) (y : B) → option_and_then f o ≡ Some y → Through f o y
through f None y e = cc
through f (Some x) y e = record { inner = x; was = refl; gives = e }

record Mapped {A B : Type 0} (f : A → B) (o : Option A) (y : B) : Type 0 where
  inner : A
  was : o ≡ Some inner
  gives : Some (f inner) ≡ Some y

mapped : {A B : Type 0} (f : A → B) (o : Option A) (y : B) → option_map f o ≡ Some y → Mapped f o y
mapped f None y e = cc
mapped f (Some x) y e = record { inner = x; was = refl; gives = e }

tested : {A : Type 0} (b : Bool) (o : Option A) (y : A) → (if b then o else None) ≡ Some y → (b ≡ true) × (o ≡ Some y)
tested true o y e = (refl, e)
tested false o y e = cc

map_none : {A B : Type 0} (f : A → B) (o : Option A) → option_map f o ≡ None → o ≡ None
map_none f None none = refl
map_none f (Some x) none = cc

test_none : {A B : Type 0} (b : Bool) (o : Option A) (p : Option B) → (o ≡ None → p ≡ None) → (if b then o else None) ≡ None → (if b then p else None) ≡ None
test_none true o p less none = less none
test_none false o p less none = refl

-- no place, nothing that fits
no_name : (after : ℕ) (kind : NameKind) (s : Seen) (end : ℕ) → placed_at kind s end ≡ None → name_fits after kind s end ≡ None
unfolding placed_at
no_name after kind s end none =
    test_none (is_name kind s.rest end) (option_map (named s end) (first_some (after_fits s end) afters)) (option_map (named s end) (pick (after_fits s end) afters after))
    (λ none. ap (option_map (named s end)) (nothing (after_fits s end) afters (map_none (named s end) (first_some (after_fits s end) afters) none) after)) none

no_lead_by : (name after : ℕ) (kind : NameKind) (o : Option Seen) → option_and_then (in_lead kind) o ≡ None → option_and_then (λ s. pick (name_fits after kind s) (range_with_len 1 (length s.rest - 1)) name) o ≡ None
unfolding in_lead
no_lead_by name after kind None none = refl
no_lead_by name after kind (Some s) none =
    none_too (placed_at kind s) (name_fits after kind s) (no_name after kind s) (range_with_len 1 (length s.rest - 1)) name (nothing (placed_at kind s) (range_with_len 1 (length s.rest - 1)) none name)

abbrev begun_lead : List ℕ → List Part × NameKind → Option Place
begun_lead line lead = option_and_then (in_lead lead.1) (fit lead.0 (before line))

no_lead : (name after : ℕ) (line : List ℕ) (lead : List Part × NameKind) → begun_lead line lead ≡ None → lead_fits name after line lead ≡ None
no_lead name after line lead none = no_lead_by name after lead.1 (fit lead.0 (before line)) none

pub none_fits : (line : List ℕ) → place line ≡ None → (l n a : ℕ) → fits_at line l n a ≡ None
none_fits line none l n a = none_too (begun_lead line) (lead_fits n a line) (no_lead n a line) leads l (nothing (begun_lead line) leads none l)

pub least_fits : (line : List ℕ) (p : Place) → place line ≡ Some p → IsLeast line p
unfolding in_lead placed_at
least_fits line p e =
    let r1 : FirstAt (begun_lead line) leads p = first_at (begun_lead line) leads p e in
    let at1 : ItemAt (begun_lead line) leads r1.index p = item_at (begun_lead line) leads r1.index p r1.is in
    let in1 : Through (in_lead at1.item.1) (fit at1.item.0 (before line)) p = through (in_lead at1.item.1) (fit at1.item.0 (before line)) p at1.gives in
    let s : Seen = in1.inner in
    let kind : NameKind = at1.item.1 in
    let ends : List ℕ = range_with_len 1 (length s.rest - 1) in
    let r2 : FirstAt (placed_at kind s) ends p = first_at (placed_at kind s) ends p in1.gives in
    let at2 : ItemAt (placed_at kind s) ends r2.index p = item_at (placed_at kind s) ends r2.index p r2.is in
    let end : ℕ = at2.item in
    let in2 : (is_name kind s.rest end ≡ true) × (option_map (named s end) (first_some (after_fits s end) afters) ≡ Some p) = tested (is_name kind s.rest end) (option_map (named s end) (first_some (after_fits s end) afters)) p at2.gives in
    let in3 : Mapped (named s end) (first_some (after_fits s end) afters) p = mapped (named s end) (first_some (after_fits s end) afters) p in2.1 in
    let r3 : FirstAt (after_fits s end) afters in3.inner = first_at (after_fits s end) afters in3.inner in3.was in
    let here : (n a : ℕ) → fits_at line r1.index n a ≡ pick (name_fits a kind s) ends n =
    λ n a. at1.same (lead_fits n a line) ∙ ap (λ o. option_and_then (λ (s : Seen). pick (name_fits a kind s) (range_with_len 1 (length s.rest - 1)) n) o) in1.was in
    let there : (a : ℕ) → fits_at line r1.index r2.index a ≡ option_map (named s end) (pick (after_fits s end) afters a) =
    λ a. here r2.index a ∙ (at2.same (name_fits a kind s) ∙ ap (λ v. if v then option_map (named s end) (pick (after_fits s end) afters a) else None) in2.0) in
    record {
      lead = r1.index;
      name = r2.index;
      after = r3.index;
      fits = there r3.index ∙ (ap (option_map (named s end)) r3.is ∙ in3.gives);
      first_lead = λ l n a low. none_too (begun_lead line) (lead_fits n a line) (no_lead n a line) leads l (r1.earlier l low);
      shortest_name = λ n a low. here n a ∙ none_too (placed_at kind s) (name_fits a kind s) (no_name a kind s) ends n (r2.earlier n low);
      first_after = λ a low. there a ∙ ap (option_map (named s end)) (r3.earlier a low);
    }

-- the answer of `place`
pub is_least : (line : List ℕ) (answer : Option Place) → answer ≡ place line → IsLeastPlace line answer
is_least line None e = none_fits line (sym e)
is_least line (Some p) e = least_fits line p (sym e)
