-- Equal labels are searched among those that start together.
use Rattle.std.proofs.Common.{◌≡◌, ℕ, zero, suc, ◌+◌, ◌-◌, ◌<◌, ◌≤◌, ◌&&◌, Bool, false, inl, inr, List, [], ◌∷◌, ◌++◌, length, filter, get_or, take, drop, slice_range, eqb, cond, refl, sym, ap, subst, ◌∙◌, arith, append-nil, ⊎_elim, Option, Some, None}
use Rattle.std.specs.List.{filter_map, find, range_with_len}
use Rattle.std.specs.List.Sorted.{IsNonDecreasingBy, IsStrictlyIncreasing}
use Rattle.std.specs.Option.{is_some, unwrap_or}
use Rattle.std.proofs.lemmas.Bool.{cases_Bool, cases_lt, eqb-true}
use Rattle.std.proofs.lemmas.Bool.Decides.{nat_tests}
use Rattle.std.proofs.lemmas.List.{get_or-map, length-drop, length-map, take_all, take_more}
use Rattle.std.proofs.lemmas.List.Elements.{filter_map-append}
use Rattle.std.proofs.lemmas.List.FromFn.{length-range_with_len, get_or-range_with_len}
use Rattle.std.proofs.lemmas.List.Kept.{AllPairs-from_increasing, IsStrictlyIncreasing-filter}
use Rattle.oxc_span.specs.LabelEq.{text_eq}
use Rattle.oxc_span.specs.declared.span.Span.{Span}
use Rattle.oxc_plan.specs.Groups.{span_at}
use Rattle.oxc_plan.specs.Meets.{is_one_row, one_row_labels}
use Rattle.oxc_plan.specs.Plan.{Ordered, hang_of, hang_place, is_like, ordered_at, spans_of, start_in}
use Rattle.oxc_plan.specs.declared.hangs.Hang.{Hang}
use Rattle.oxc_plan.proofs.PlanLemmas.{one_rows_within}
pub use Rattle.base_lemmas.proofs.Lists.{slice_range-rest as from_run}
use Rattle.base_lemmas.proofs.Ranges.{range_rises}

-- a search need not begin before the first that passes
find_later : (p : ℕ → Bool) (xs : List ℕ) (n : ℕ) → n ≤ length xs → ((k : ℕ) → k < n → p (get_or xs k 0) ≡ false) → find p (drop n xs) ≡ find p xs
find_later p xs zero le none = refl
find_later p [] (suc n) le none = refl
find_later p (x ∷ xs) (suc n) le none =
    let first : p x ≡ false = none 0 (omega arith) in
    find_later p xs n (omega (arith, le)) (λ k lt. none (suc k) (omega (arith, lt))) ∙ (rw first refl)

-- labels that start elsewhere are not equal
unlike : (text same : Bool) (a b : ℕ) → a < b → (text && (eqb a b && same)) ≡ false
unlike text same a b lt = grind (arith, nat_tests)

start_apart : (labels : List Ordered) (a b : ℕ) → start_in labels a < start_in labels b → is_like (ordered_at labels a) (ordered_at labels b) ≡ false
start_apart labels a b lt =
    unlike (text_eq (ordered_at labels a).text (ordered_at labels b).text) (eqb (ordered_at labels a).span.end (ordered_at labels b).span.end) (start_in labels a) (start_in labels b) lt

-- the place at which a run begins: labels before it start earlier, and those from it on start together
pub record IsRun (labels : List Ordered) (places : List ℕ) (run i : ℕ) : Type 0 where
  pub from : run ≤ i
  pub earlier : (k : ℕ) → k < run → start_in labels (get_or places k 0) < start_in labels (get_or places run 0)
  pub together : (k : ℕ) → run ≤ k → k < i → start_in labels (get_or places k 0) ≡ start_in labels (get_or places run 0)

pub first_run : (labels : List Ordered) (places : List ℕ) → IsRun labels places 0 0
first_run labels places = record { from = omega arith; earlier = λ k lt. absurd (omega arith); together = λ k low high. absurd (omega arith) }

pub run_next : (labels : List Ordered) (places : List ℕ) (run i next : ℕ) → IsNonDecreasingBy (start_in labels) places → i < length places → IsRun labels places run i
    → next ≡ cond (eqb (start_in labels (get_or places run 0)) (start_in labels (get_or places i 0))) run i
    → IsRun labels places next (i + 1) × ((k : ℕ) → k < next → start_in labels (get_or places k 0) < start_in labels (get_or places i 0))
run_next labels places run i next ascend lt is says = elim (cases_Bool (eqb (start_in labels (get_or places run 0)) (start_in labels (get_or places i 0)))) [
  | inl same ↦
      let met = eqb-true (start_in labels (get_or places run 0)) (start_in labels (get_or places i 0)) same in
      let stays : next ≡ run = says ∙ rw same refl in (
        subst (λ n. IsRun labels places n (i + 1)) (sym stays)
            (record {
              from = omega (arith, is.from);
              earlier = is.earlier;
              together = λ k low high. ⊎_elim (λ before. is.together k low before) (λ last. let here : k ≡ i = omega arith in ap (λ n. start_in labels (get_or places n 0)) here ∙ sym met) (cases_lt k i);
            }),
        λ k before. omega (arith, met, is.earlier k (omega (arith, before, stays))),
      )
  | inr other ↦
      let turns : next ≡ i = says ∙ rw other refl in
      let run_up : start_in labels (get_or places run 0) ≤ start_in labels (get_or places i 0) = ascend run i 0 is.from lt in
      let differ = rises (start_in labels (get_or places run 0)) (start_in labels (get_or places i 0)) other run_up in
      let before_i : (k : ℕ) → k < i → start_in labels (get_or places k 0) < start_in labels (get_or places i 0) = λ k low.
      ⊎_elim (λ earlier. omega (arith, is.earlier k earlier, differ)) (λ together. omega (arith, is.together k together low, differ)) (cases_lt k run) in (
        subst (λ n. IsRun labels places n (i + 1)) (sym turns)
            (record {
              from = omega arith;
              earlier = before_i;
              together = λ k low high. let here : k ≡ i = omega arith in ap (λ n. start_in labels (get_or places n 0)) here;
            }),
        λ k before. before_i k (omega (arith, before, turns)),
      )
]
  where
    rises : (a b : ℕ) → eqb a b ≡ false → a ≤ b → a < b
    rises a b other le = grind (arith, nat_tests)

-- where a text hangs, by a search among the labels that start together
pub hang_in_run : (labels : List Ordered) (places : List ℕ) (run at : ℕ) → run ≤ length places → ((k : ℕ) → k < run → start_in labels (get_or places k 0) < start_in labels at)
    → hang_of labels (drop run places) at ≡ hang_of labels places at
hang_in_run labels places run at le earlier =
    let p : ℕ → Bool = λ other. is_like (ordered_at labels other) (ordered_at labels at) in
    let same : hang_place labels (drop run places) at ≡ hang_place labels places at = ap (λ o. unwrap_or o at) (find_later p places run le (λ k lt. start_apart labels (get_or places k 0) at (earlier k lt))) in
    ap (λ n. cond (is_some (ordered_at labels at).text) (Some (record { label = at; at = n })) None) same

-- one text more, and one place without
pub hang_more : (f : ℕ → Option Hang) (hangs : List Hang) (hang : Hang) (places : List ℕ) (i d : ℕ) → i < length places → f (get_or places i d) ≡ Some hang
    → hangs ≡ filter_map f (take i places) → hangs ++ hang ∷ [] ≡ filter_map f (take (i + 1) places)
hang_more f hangs hang places i d lt is so_far =
    ap (λ l. l ++ hang ∷ []) so_far ∙ sym (ap (filter_map f) (take_more places i d lt) ∙ filter_map-append f (take i places) (get_or places i d ∷ []) ∙ ap (λ l. filter_map f (take i places) ++ l) (one (get_or places i d) (f (get_or places i d)) refl is))
  where
    one : (x : ℕ) (o : Option Hang) → f x ≡ o → o ≡ Some hang → filter_map f (x ∷ []) ≡ hang ∷ []
    one x o e is = rw (e, is) refl

pub hang_less : (f : ℕ → Option Hang) (hangs : List Hang) (places : List ℕ) (i d : ℕ) → i < length places → f (get_or places i d) ≡ None
    → hangs ≡ filter_map f (take i places) → hangs ≡ filter_map f (take (i + 1) places)
hang_less f hangs places i d lt is so_far =
    so_far ∙ sym (ap (filter_map f) (take_more places i d lt) ∙ filter_map-append f (take i places) (get_or places i d ∷ []) ∙ ap (λ l. filter_map f (take i places) ++ l) (none (get_or places i d) is) ∙ append-nil (filter_map f (take i places)))
  where
    none : (x : ℕ) → f x ≡ None → filter_map f (x ∷ []) ≡ []
    none x is = rw is refl

-- the one-row labels of a row ascend by their starts
pub one_rows_ascend : (offset len : ℕ) (labels : List Ordered) → IsNonDecreasingBy (λ (s : Span). s.start) (spans_of labels) → IsNonDecreasingBy (start_in labels) (one_row_labels offset len (spans_of labels))
unfolding one_row_labels
one_rows_ascend offset len labels rising i j d le lt =
    let spans = spans_of labels in
    let n = length spans in
    let p : ℕ → Bool = λ at. is_one_row offset len (span_at spans at) in
    let places = filter p (range_with_len 0 n) in
    let size : n ≡ length labels = length-map labels (λ l. l.span) in
    let a = get_or places i d in
    let b = get_or places j d in
    let high : b < n = one_rows_within offset len spans j d lt in
    let order : a ≤ b = ⊎_elim
    (λ before. let less = AllPairs-from_increasing places (IsStrictlyIncreasing-filter p (range_with_len 0 n) (range_rises 0 n)) i j d before lt in omega (arith, less))
    (λ last. let same : i ≡ j = omega (arith, le, last) in omega (arith, ap (λ k. get_or places k d) same))
    (cases_lt i j) in
    let none : Span = record { start = 0; end = 0 } in
    let left : span_at spans a ≡ (ordered_at labels a).span = get_or-map (λ l. l.span) labels a _ _ (omega (arith, order, high, size)) in
    let right : span_at spans b ≡ (ordered_at labels b).span = get_or-map (λ l. l.span) labels b _ _ (omega (arith, high, size)) in
    omega (arith, rising a b none order high, ap (λ s. s.start) left, ap (λ s. s.start) right)
