-- What is said at a path.
use Rattle.std.specs.Prelude.{ℕ, ◌==◌, List, [], ◌∷◌, length, Bool, true, false, not, if◌then◌else◌, Option, Some, None, option_and_then, slice_get, codes}
use Rattle.json.specs.Json.{Json, null, boolean, number, string, array, object}
use Rattle.json.specs.Find.{get, at}
use Rattle.json_spots.specs.declared.step.Step.{Step}
use Rattle.json_spots.specs.declared.step.Step.TheVariants.{Key, Nth, Each, Member}
use Rattle.json_spots.specs.declared.step.Path.{Path}
use Rattle.json_spots.specs.declared.said.Said as code_said
use Rattle.json_spots.specs.declared.said.Said.TheVariants as saids
use Rattle.json_spots.specs.Spot.{By, root, name, index, Crumb, Spot}

-- what is said at a path, as rows read it
pub data Said : Type 0 where
  nothing : Said
  words : List ℕ → Said
  figure : List ℕ → Said
  truth : Bool → Said
  other : Said

-- the value that a name or an index leads to
unfoldable pub inward : Step → Json → Option Json
inward (Key key) value = get key.now value
inward (Nth n) value = at n value
inward Each value = None
inward Member value = None

-- the value to which names and indices lead
abbrev pub lead : List Step → Json → Option Json
lead [] value = Some value
lead (step ∷ steps) value = option_and_then (lead steps) (inward step value)

abbrev pub value_said : Json → Said
value_said null = nothing
value_said (boolean b) = truth b
value_said (number text) = figure text
value_said (string text) = words text
value_said (array items) = other
value_said (object ms) = other

abbrev pub said_of : Option Json → Said
said_of None = nothing
said_of (Some value) = value_said value

-- a member's name
abbrev pub name_said : By → Said
name_said root = nothing
name_said (name text) = words text
name_said (index n) = nothing

-- the value that is so many values out from a spot
unfoldable pub outward : ℕ → Spot → Option Crumb
outward out spot = slice_get (spot.here ∷ spot.outer) out

abbrev pub said_from : Path → Option Crumb → Said
said_from path None = nothing
said_from path (Some crumb) = if path.is_name then name_said crumb.by else said_of (lead path.steps.items crumb.value)

unfoldable pub said_at : Path → Spot → Said
said_at path spot = said_from path (outward path.out spot)

-- an empty text says nothing
abbrev pub says : Said → Bool
says nothing = false
says (words text) = not (length text == 0)
says (figure text) = true
says (truth b) = true
says other = true

-- the text of what is said
abbrev pub word_of : Said → Option (List ℕ)
word_of nothing = None
word_of (words text) = Some text
word_of (figure text) = Some text
word_of (truth true) = Some (codes "true")
word_of (truth false) = Some (codes "false")
word_of other = None

-- ---- the code's values

abbrev pub said_view : code_said.Said → Said
said_view saids.Nothing = nothing
said_view (saids.Text text) = words text.now
said_view (saids.Number text) = figure text.now
said_view (saids.Bool b) = truth b
said_view saids.Other = other
