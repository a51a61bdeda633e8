-- The places of rules among rules.
use Rattle.std.proofs.Common.{◌≡◌, ℕ, ◌+◌, List, [], ◌∷◌, ◌++◌, length, map, Bool, true, false, cond, if◌then◌else◌, Option, Some, None, bytes_eq, refl, sym, ap, subst, ◌∙◌, arith}
use Rattle.std.specs.Option.{option_or}
use Rattle.std.specs.BTreeMap.{BTreeMap, Updates, get_by_text, IsEmpty}
use Rattle.std.specs.declared.alloc.Global.{Global}
use Rattle.std.specs.Prelude.{String, string_bytes}
use Rattle.std.specs.String.{string_cmp}
use Rattle.std.proofs.lemmas.Map.Text.{btree_map_updates_text}
use Rattle.std.proofs.lemmas.Slice.Eq.{bytes_eq-Decides}
use Rattle.std.proofs.lemmas.List.{length-map, map_push}
use Rattle.serde_json.specs.Data.{Data}
use Rattle.serde_json.specs.View.{view}
use Rattle.serde_json.specs.declared.value.Value.{Value}
use Rattle.serde_json.specs.Written.{compact_text}
use Rattle.sarif_writing.specs.Rules.{ArePlaces, place_from}

abbrev last_place : ℕ → Data → List ℕ → Option ℕ
last_place at rule text = if bytes_eq (compact_text rule) text then Some at else None

-- the place of a text among rules and one more
place_more : (at : ℕ) (rules : List Data) (rule : Data) (text : List ℕ)
    → place_from at (rules ++ rule ∷ []) text ≡ option_or (place_from at rules text) (last_place (at + length rules) rule text)
unfolding place_from
place_more at [] rule text =
    let here : at ≡ at + 0 = omega arith in
    ap (λ n. last_place n rule text) here
place_more at (first ∷ rules) rule text =
    let here : (at + 1) + length rules ≡ at + length (first ∷ rules) = omega arith in
    elim (bytes_eq (compact_text first) text) as (λ v. (if v then Some at else place_from (at + 1) (rules ++ rule ∷ []) text) ≡ option_or (if v then Some at else place_from (at + 1) rules text) (last_place (at + length (first ∷ rules)) rule text)) [
      | true ↦ refl
      | false ↦ place_more (at + 1) rules rule text ∙ ap (λ n. option_or (place_from (at + 1) rules text) (last_place n rule text)) here
    ]

-- what is at the text of the new rule, and what is elsewhere
new_or_old : (rules : List Data) (rule : Data) (key text : List ℕ) (same : Bool) → key ≡ compact_text rule → place_from 0 rules key ≡ None
    → bytes_eq key text ≡ same
    → cond same (Some (length rules)) (place_from 0 rules text) ≡ option_or (place_from 0 rules text) (if same then Some (length rules) else None)
new_or_old rules rule key text true is new test =
    let key_is : key ≡ text = (bytes_eq-Decides key text).0 test in
    let none : place_from 0 rules text ≡ None = ap (place_from 0 rules) (sym key_is) ∙ new in
    rw none refl
new_or_old rules rule key text false is new test = sym (or_none (place_from 0 rules text))
  where
    or_none : (o : Option ℕ) → option_or o None ≡ o
    or_none None = refl
    or_none (Some n) = refl

-- one more rule, by its text
more_places : (rules : List Data) (rule : Data) (old new : BTreeMap (String Global) ℕ) (text : String Global) (count : ℕ)
    → ArePlaces rules old → Updates string_cmp old new text (Some count) → string_bytes text ≡ compact_text rule
    → place_from 0 rules (string_bytes text) ≡ None → count ≡ length rules → ArePlaces (rules ++ rule ∷ []) new
more_places rules rule old new text count are updates is fresh counted = λ other.
    let key = string_bytes text in
    let from : length rules ≡ 0 + length rules = omega arith in
    btree_map_updates_text key old new (Some count) updates other
    ∙ ap (λ n. cond (bytes_eq key other) (Some n) (get_by_text old other)) counted
    ∙ ap (λ o. cond (bytes_eq key other) (Some (length rules)) o) (are other)
    ∙ new_or_old rules rule key other (bytes_eq key other) is fresh refl
    ∙ ap (λ t. option_or (place_from 0 rules other) (if bytes_eq t other then Some (length rules) else None)) is
    ∙ ap (λ n. option_or (place_from 0 rules other) (last_place n rule other)) from
    ∙ sym (place_more 0 rules rule other)

pub pushed_places : (old new : List Value) (rule : Value) (before after : BTreeMap (String Global) ℕ) (text : String Global) (count : ℕ)
    → ArePlaces (map view old) before → Updates string_cmp before after text (Some count) → string_bytes text ≡ compact_text (view rule)
    → place_from 0 (map view old) (string_bytes text) ≡ None → count ≡ length old → new ≡ old ++ rule ∷ [] → ArePlaces (map view new) after
pushed_places old new rule before after text count are updates is fresh counted pushed =
    subst (λ its. ArePlaces its after) (sym (ap (map view) pushed ∙ map_push view old rule))
    (more_places (map view old) (view rule) before after text count are updates is fresh (counted ∙ sym (length-map old view)))

-- no rule yet
pub no_places : (values : List Value) (places : BTreeMap (String Global) ℕ) → values ≡ [] → IsEmpty places → ArePlaces (map view values) places
unfolding place_from
no_places values places none empty = subst (λ its. ArePlaces (map view its) places) (sym none) (λ text. rw empty refl)
