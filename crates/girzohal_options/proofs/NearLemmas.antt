-- The best of several names.
use Rattle.std.proofs.Common.{◌≡◌, ◌<◌, ◌≤◌, ◌++◌, ℕ, ◌+◌, Bool, true, false, List, [], ◌∷◌, map, length, get_or, take, Option, Some, None, if◌then◌else◌, nat_lt, refl, sym, subst, ap, ◌∙◌, arith, Bor}
use Rattle.std.specs.List.{All, Contains}
use Rattle.std.specs.Option.{option_copied}
use Rattle.girzohal_options.specs.Nearest.{IsClosest, edits}
use Rattle.girzohal_options.specs.declared.near.Near.{Near}
use Rattle.std.proofs.lemmas.Bool.{ltb-true, ltb-false}
use Rattle.std.proofs.lemmas.List.{map_push, take_all, take_more}
use Rattle.std.proofs.lemmas.List.Elements.{All-nil, All-push, All-weaker, Contains-append_left, Contains-push}

-- a name has at least so many edits
abbrev pub Least : List ℕ → ℕ → List ℕ → Type 0
Least text count name = count ≤ edits text name

abbrev pub IsNamed : List (List ℕ) → List ℕ → Option (Bor (List ℕ)) → ℕ → Type 0
IsNamed seen text None count = count ≡ 3
IsNamed seen text (Some it) count = Contains seen it.now × (count ≡ edits text it.now) × (count < 3)

pub record IsNear (seen : List (List ℕ)) (text : List ℕ) (near : Near) : Type 0 where
  pub least : All (Least text near.edits) seen
  pub most : near.edits ≤ 3
  pub named : IsNamed seen text near.name near.edits

pub none_near : (text : List ℕ) (near : Near) → near.name ≡ None → near.edits ≡ 3 → IsNear [] text near
none_near text near none count = record {
  least = All-nil _;
  most = omega (arith, count);
  named = subst (λ name. IsNamed [] text name near.edits) (sym none) count;
}

named_more : (seen : List (List ℕ)) (text name : List ℕ) (near : Option (Bor (List ℕ))) (count : ℕ) → IsNamed seen text near count → IsNamed (seen ++ name ∷ []) text near count
named_more seen text name None count is = is
named_more seen text name (Some it) count is = (Contains-append_left seen (name ∷ []) it.now is.0, is.1, is.2)

near_push : (seen : List (List ℕ)) (text : List ℕ) (name : Bor (List ℕ)) (near next : Near) → IsNear seen text near
    → next ≡ (if nat_lt (edits text name.now) near.edits then record { name = Some name; edits = edits text name.now } else near) → IsNear (seen ++ name.now ∷ []) text next
near_push seen text name near next is next_is = go (nat_lt (edits text name.now) near.edits) refl next_is
  where
    go : (less : Bool) → nat_lt (edits text name.now) near.edits ≡ less
        → next ≡ (if less then record { name = Some name; edits = edits text name.now } else near) → IsNear (seen ++ name.now ∷ []) text next
    go true less is_it =
        let below = ltb-true (edits text name.now) near.edits less in
        subst (IsNear (seen ++ name.now ∷ []) text) (sym is_it) (record {
          least = All-push (Least text (edits text name.now)) seen name.now
              (All-weaker (Least text near.edits) (Least text (edits text name.now)) (λ other le. omega (arith, le, below)) seen is.least) (omega arith);
          most = omega (arith, below, is.most);
          named = (Contains-push seen name.now, refl, omega (arith, below, is.most));
        })
    go false less is_it =
        let least = ltb-false (edits text name.now) near.edits less in
        subst (IsNear (seen ++ name.now ∷ []) text) (sym is_it) (record {
          least = All-push (Least text near.edits) seen name.now is.least least;
          most = is.most;
          named = named_more seen text name.now near.name near.edits is.named;
        })

pub near_more : (names : List (Bor (List ℕ))) (text : List ℕ) (at : ℕ) (name none : Bor (List ℕ)) (near next : Near) → at < length names → name ≡ get_or names at none
    → IsNear (map (λ it. it.now) (take at names)) text near
    → next ≡ (if nat_lt (edits text name.now) near.edits then record { name = Some name; edits = edits text name.now } else near)
    → IsNear (map (λ it. it.now) (take (at + 1) names)) text next
near_more names text at name none near next within is_name is next_is =
    let taken = take_more names at none within ∙ ap (λ it. take at names ++ it ∷ []) (sym is_name) in
    subst (λ seen. IsNear seen text next) (sym (ap (map (λ it. it.now)) taken ∙ map_push (λ it. it.now) (take at names) name))
    (near_push (map (λ it. it.now) (take at names)) text name near next is next_is)

closest : (names : List (List ℕ)) (text : List ℕ) (name : Option (Bor (List ℕ))) (count : ℕ) → All (Least text count) names → IsNamed names text name count
    → IsClosest names text (option_copied name)
closest names text None count least is = All-weaker (Least text count) (λ name. 2 < edits text name) (λ other le. omega (arith, le, is)) names least
closest names text (Some it) count least is =
    (is.0, omega (arith, is.1, is.2), All-weaker (Least text count) (λ name. edits text it.now ≤ edits text name) (λ other le. omega (arith, le, is.1)) names least)

pub near_closest : (names : List (Bor (List ℕ))) (text : List ℕ) (at : ℕ) (near : Near) → length names ≤ at → IsNear (map (λ it. it.now) (take at names)) text near
    → IsClosest (map (λ it. it.now) names) text (option_copied near.name)
near_closest names text at near past is =
    let all = ap (map (λ it. it.now)) (take_all at names past) in
    let here = subst (λ seen. IsNear seen text near) all is in
    closest (map (λ it. it.now) names) text near.name near.edits here.least here.named
