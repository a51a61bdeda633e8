-- How many entries are left.
use Rattle.std.proofs.Common.{◌≡◌, ◌+◌, ◌-◌, ◌<◌, ◌≤◌, [], length, map, drop, get_or, ℕ, Bool, true, false, cond, if◌then◌else◌, List, Option, Some, None, String, string_bytes, unwrap_or, refl, sym, ap, ◌∙◌, arith}
use Rattle.std.specs.BTreeMap.{BTreeMap, Updates, UpdatesBy, get_by_text, is_at}
use Rattle.std.specs.Cmp.Lexicographic.{slice_cmp}
use Rattle.std.specs.Map.{lookup}
use Rattle.std.specs.Ordering.{nat_cmp}
use Rattle.std.proofs.lemmas.List.{drop_more}
use Rattle.std.specs.Str.{bytes_eq}
use Rattle.std.specs.String.{string_cmp}
use Rattle.std.specs.declared.alloc.Global.{Global}
use Rattle.std.proofs.lemmas.Map.Text.{btree_map_updates_text}
use Rattle.std.proofs.lemmas.Slice.Eq.{bytes_eq-Decides}
use Rattle.finding_filters.specs.Baseline.{Left, counted, counted_by, item_parts, left_in, more, none_left, offers, one_of}
use Rattle.finding_filters.specs.declared.baseline.Item.{Item}
use Rattle.finding_filters.specs.declared.baseline.Round.{Round}

added_step : (here : Bool) (n old other : ℕ) → (here ≡ true → other ≡ old) → n ≡ old + 1 → (o : Option ℕ) → unwrap_or o 0 ≡ other
    → unwrap_or (cond here (Some n) o) 0 ≡ other + (if here then 1 else 0)
added_step true n old other same is o was = is ∙ ap (λ k. k + 1) (sym (same refl))
added_step false n old other same is o was = was ∙ omega arith

-- one more of a class
pub added : (old new : BTreeMap (String Global) ℕ) (class : List ℕ) (key : String Global) (n : ℕ) → Updates string_cmp old new key (Some n) → string_bytes key ≡ class
    → n ≡ left_in old class + 1 → left_in new ≡ more (left_in old) class
unfolding left_in more
added old new class key n updates same is = λ i. λ q. added_at q i
  where
    added_at : (q : List ℕ) → unwrap_or (get_by_text new q) 0 ≡ unwrap_or (get_by_text old q) 0 + one_of class q
    added_at q =
        ap (λ o. unwrap_or o 0)
        (btree_map_updates_text (string_bytes key) old new (Some n) updates q ∙ ap (λ (t : List ℕ). cond (bytes_eq t q) (Some n) (get_by_text old q)) same)
        ∙ added_step (bytes_eq class q) n (unwrap_or (get_by_text old class) 0) (unwrap_or (get_by_text old q) 0)
        (λ here. ap (λ t. unwrap_or (get_by_text old t) 0) (sym ((bytes_eq-Decides class q).0 here))) is (get_by_text old q) refl

one_small : (said : Bool) → (if said then 1 else 0) ≤ 1
one_small true = omega arith
one_small false = omega arith

-- a count grows by one at most
pub counted_few : (left : Left) (class : Option (List ℕ)) (n : ℕ) → ((q : List ℕ) → left q ≤ n) → (q : List ℕ) → counted_by left class q ≤ n + 1
unfolding more
counted_few left None n few q = omega (arith, few q)
counted_few left (Some class) n few q = omega (arith, few q, one_small (bytes_eq class q))

-- no map has counts that is empty
pub empty_left : (counts : BTreeMap (String Global) ℕ) → counts.entries ≡ [] → left_in counts ≡ none_left
unfolding left_in
empty_left counts empty = λ i. λ q. at q i
  where
    at : (q : List ℕ) → unwrap_or (get_by_text counts q) 0 ≡ 0
    at q = ap (λ (es : List (String Global × ℕ)). unwrap_or (lookup (is_at (λ k. slice_cmp nat_cmp q (string_bytes k))) es) 0) empty

pub empty_few : (left : Left) → left ≡ none_left → (q : List ℕ) → left q ≤ 0
empty_few left is q = omega (arith, ap (λ (f : Left). f q) is)

-- one entry more is counted
pub counted_step : (entries : List Item) (i : ℕ) (d : Item) (round : Round) (left : Left) → i < length entries
    → counted left (map (offers round) (map item_parts (drop i entries)))
    ≡ counted (counted_by left (offers round (item_parts (get_or entries i d)))) (map (offers round) (map item_parts (drop (i + 1) entries)))
counted_step entries i d round left within = ap (λ those. counted left (map (offers round) (map item_parts those))) (drop_more entries i d within)

taken_step : (here : Bool) (w n other : ℕ) → (here ≡ true → other ≡ n) → w ≡ n - 1 → (o : Option ℕ) → unwrap_or o 0 ≡ other
    → unwrap_or (cond here (Some w) o) 0 ≡ other - (if here then 1 else 0)
taken_step true w n other same is o was = is ∙ ap (λ k. k - 1) (sym (same refl))
taken_step false w n other same is o was = was ∙ omega arith

-- one is taken of a class
pub taken_one : (old new : BTreeMap (String Global) ℕ) (class : List ℕ) (w n : ℕ) → UpdatesBy string_cmp (λ k. slice_cmp nat_cmp class (string_bytes k)) old new (Some w)
    → get_by_text old class ≡ Some n → w ≡ n - 1 → (q : List ℕ) → unwrap_or (get_by_text new q) 0 ≡ unwrap_or (get_by_text old q) 0 - one_of class q
taken_one old new class w n updates value is q =
    ap (λ o. unwrap_or o 0) (btree_map_updates_text class old new (Some w) updates q)
    ∙ taken_step (bytes_eq class q) w n (unwrap_or (get_by_text old q) 0)
    (λ here. ap (λ t. unwrap_or (get_by_text old t) 0) (sym ((bytes_eq-Decides class q).0 here)) ∙ ap (λ o. unwrap_or o 0) value) is (get_by_text old q) refl
