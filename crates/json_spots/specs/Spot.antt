-- Spots: values inside a value, with the way that leads to them.
use Rattle.std.specs.Prelude.{ℕ, ◌+◌, List, [], ◌∷◌, Bool, true, false, if◌then◌else◌, Option, Some, None, map, flat_map}
use Rattle.json.specs.Json.{Json, null, boolean, number, string, array, object, Items, no_items, item, Members, no_members, member}
use Rattle.json.specs.Find.{get_member, get_item, is_null}
use Rattle.json.specs.Value.{value_view}
use Rattle.json_spots.specs.declared.step.Step.{Step}
use Rattle.json_spots.specs.declared.step.Step.TheVariants.{Key, Nth, Each, Member}
use Rattle.json_spots.specs.declared.step.Wanted.{Wanted}
use Rattle.json_spots.specs.declared.step.Wanted.TheVariants as wanted
use Rattle.json_spots.specs.declared.spot.Arrival.{Arrival}
use Rattle.json_spots.specs.declared.spot.Arrival.TheVariants.{There, Null, Not}
use Rattle.json_spots.specs.declared.spot.By as code_by
use Rattle.json_spots.specs.declared.spot.By.TheVariants as bys
use Rattle.json_spots.specs.declared.spot.Crumb as code_crumb
use Rattle.json_spots.specs.declared.spot.Spot as code_spot
use Rattle.json_spots.specs.declared.spot.Reached as code_reached

-- how a value is in the one around it
pub data By : Type 0 where
  root : By
  name : List ℕ → By
  index : ℕ → By

-- a value, and how it is in the one around it
pub record Crumb : Type 0 where
  pub value : Json
  pub by : By

-- a value with those around it, from the inside out
pub record Spot : Type 0 where
  pub here : Crumb
  pub outer : List Crumb

-- a spot at which steps end, and how
pub record Reached : Type 0 where
  pub spot : Spot
  pub arrival : Arrival

-- a value, unless it is null
abbrev pub told : By → Json → List Crumb
told by value = if is_null value then [] else record { value = value; by = by } ∷ []

abbrev pub one_told : By → Option Json → List Crumb
one_told by None = []
one_told by (Some value) = told by value

abbrev pub item_crumbs : ℕ → Items → List Crumb
item_crumbs at no_items = []
item_crumbs at (item value rest) = record { value = value; by = index at } ∷ item_crumbs (at + 1) rest

abbrev pub member_crumbs : Members → List Crumb
member_crumbs no_members = []
member_crumbs (member key value rest) = record { value = value; by = name key } ∷ member_crumbs rest

abbrev pub has_no_item : Items → Bool
has_no_item no_items = true
has_no_item (item value rest) = false

-- an empty array has no members, another one isn't an object
abbrev pub members_of_items : Items → Option (List Crumb)
members_of_items items = if has_no_item items then Some [] else None

abbrev pub of_array : Step → Items → Option (List Crumb)
of_array (Key key) items = None
of_array (Nth at) items = Some (one_told (index at) (get_item at items))
of_array Each items = Some (item_crumbs 0 items)
of_array Member items = members_of_items items

abbrev pub of_object : Step → Members → Option (List Crumb)
of_object (Key key) ms = Some (one_told (name key.now) (get_member key.now ms))
of_object (Nth at) ms = None
of_object Each ms = None
of_object Member ms = Some (member_crumbs ms)

-- the values that a step leads to, if the value is of the kind that it wants
unfoldable pub inside : Step → Json → Option (List Crumb)
inside step null = None
inside step (boolean b) = None
inside step (number text) = None
inside step (string text) = None
inside step (array items) = of_array step items
inside step (object members) = of_object step members

abbrev pub wanted_at : Step → Wanted
wanted_at (Key key) = wanted.Object
wanted_at (Nth at) = wanted.Array
wanted_at Each = wanted.Array
wanted_at Member = wanted.Object

abbrev pub child : Spot → Crumb → Spot
child spot crumb = record { here = crumb; outer = spot.here ∷ spot.outer }

abbrev pub ends : Spot → Arrival → List Reached
ends spot arrival = record { spot = spot; arrival = arrival } ∷ []

abbrev pub onward : Step → (Spot → List Reached) → Spot → Option (List Crumb) → List Reached
onward step rest spot None = ends spot (Not (wanted_at step))
onward step rest spot (Some crumbs) = flat_map (λ crumb. rest (child spot crumb)) crumbs

-- null is where steps end
abbrev pub unless_null : Spot → List Reached → List Reached
unless_null spot reached = if is_null spot.here.value then ends spot Null else reached

-- the spots to which steps lead from one that isn't null, in order
unfoldable pub gone : List Step → Spot → List Reached
gone [] spot = ends spot There
gone (step ∷ steps) spot = onward step (λ inner. unless_null inner (gone steps inner)) spot (inside step spot.here.value)

-- the spots to which steps lead from one, in order
abbrev pub each : List Step → Spot → List Reached
each steps spot = unless_null spot (gone steps spot)

-- ---- the code's values

abbrev pub by_view : code_by.By → By
by_view bys.Root = root
by_view (bys.Name text) = name text.now
by_view (bys.Index at) = index at

abbrev pub crumb_view : code_crumb.Crumb → Crumb
crumb_view crumb = record { value = value_view crumb.value.now; by = by_view crumb.by }

abbrev pub crumbs_view : List code_crumb.Crumb → List Crumb
crumbs_view crumbs = map crumb_view crumbs

abbrev pub spot_view : code_spot.Spot → Spot
spot_view spot = record { here = crumb_view spot.here; outer = crumbs_view spot.outer.items }

abbrev pub reached_view : code_reached.Reached → Reached
reached_view it = record { spot = spot_view it.spot; arrival = it.arrival }
