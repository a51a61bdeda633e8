-- What is hollow; which forms are told.
use Rattle.std.proofs.Common.{◌≡◌, ℕ, List, [], ◌∷◌, length, nat_eq, refl, rules, take}
use Rattle.std.specs.Borrow.{Bor}
use Rattle.std.specs.declared.alloc.Global.{Global}
use Rattle.json.specs.Json.{array, object}
use Rattle.json.specs.Value.{items_view, members_view}
use Rattle.json.specs.declared.value.Value.{Value}
use Rattle.json_forms.specs.Told.{is_hollow, unless_none}
use Rattle.json_forms.specs.declared.form.Form.{Form}

pub hollow_array : (items : List (Value Global)) → is_hollow (array (items_view items)) ≡ nat_eq (length items) 0
hollow_array [] = refl
hollow_array (item ∷ items) = search rules

pub hollow_object : (members : List (Bor (List ℕ) × Value Global)) → is_hollow (object (members_view members)) ≡ nat_eq (length members) 0
hollow_object [] = refl
hollow_object (member ∷ members) = search rules

pub first_none : (forms others : List Form) → forms ≡ [] → unless_none forms others ≡ others
first_none [] others h = refl
first_none (form ∷ forms) others h = cc

pub first_one : (form : Form) (forms others : List Form) → forms ≡ form ∷ [] → unless_none forms others ≡ form ∷ []
first_one form [] others h = cc
first_one form (other ∷ forms) others h = h

pub first_two : (form next : Form) (forms others : List Form) → take 2 forms ≡ form ∷ next ∷ [] → take 2 (unless_none forms others) ≡ form ∷ next ∷ []
first_two form next [] others h = cc
first_two form next (other ∷ forms) others h = h
