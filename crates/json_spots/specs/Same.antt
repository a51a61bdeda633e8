-- Values that are the same but for the order of members.
use Rattle.std.specs.Prelude.{◌≡◌, ℕ, List, [], ◌∷◌, Bool, true, false, Option, Some, None, option_map}
use Rattle.std.specs.List.{list_all}
use Rattle.json.specs.Json.{Json, null, boolean, number, string, array, object}
use Rattle.json_spots.specs.declared.step.Step.{Step}
use Rattle.json_spots.specs.declared.step.Step.TheVariants.{Key, Nth, Each, Member}
use Rattle.json_spots.specs.Said.{lead}
use Rattle.json_spots.specs.Spot.{Crumb, Spot, Reached}

-- what a value is, without what is in it
pub data Shown : Type 0 where
  a_null : Shown
  a_bool : Bool → Shown
  a_number : List ℕ → Shown
  a_text : List ℕ → Shown
  an_array : Shown
  an_object : Shown

abbrev pub shown : Json → Shown
shown null = a_null
shown (boolean b) = a_bool b
shown (number text) = a_number text
shown (string text) = a_text text
shown (array items) = an_array
shown (object ms) = an_object

-- along each way of names and indices, both have the same there, or nothing
abbrev pub Same : Json → Json → Type 0
Same a b = (steps : List Step) → option_map shown (lead steps a) ≡ option_map shown (lead steps b)

abbrev pub SameFound : Option Json → Option Json → Type 0
SameFound None None = Unit {0}
SameFound None (Some b) = ⊥
SameFound (Some a) None = ⊥
SameFound (Some a) (Some b) = Same a b

abbrev pub SameCrumb : Crumb → Crumb → Type 0
SameCrumb a b = Same a.value b.value × (a.by ≡ b.by)

abbrev pub AllSame : {X : Type 0} → (X → X → Type 0) → List X → List X → Type 0
AllSame R [] [] = Unit {0}
AllSame R [] (y ∷ ys) = ⊥
AllSame R (x ∷ xs) [] = ⊥
AllSame R (x ∷ xs) (y ∷ ys) = R x y × AllSame R xs ys

-- two spots at the same place of such values
pub record SameSpot (a b : Spot) : Type 0 where
  pub here : SameCrumb a.here b.here
  pub outer : AllSame SameCrumb a.outer b.outer

abbrev pub SameReached : Reached → Reached → Type 0
SameReached a b = SameSpot a.spot b.spot × (a.arrival ≡ b.arrival)

abbrev pub is_placed : Step → Bool
is_placed (Key key) = true
is_placed (Nth at) = true
is_placed Each = true
is_placed Member = false

-- whether no step is `{}`
abbrev pub are_placed : List Step → Bool
are_placed steps = list_all is_placed steps
