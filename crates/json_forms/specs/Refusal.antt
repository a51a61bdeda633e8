-- Refusals as text.
use Rattle.std.specs.Prelude.{ℕ, List, [], ◌∷◌, ◌++◌, drop, if◌then◌else◌, Option, Some, None, codes, decimal, flat_map}
use Rattle.json.specs.Json.{Members, no_members, member}
use Rattle.json_spots.specs.declared.step.Step.{Step}
use Rattle.json_spots.specs.declared.step.Step.TheVariants.{Key, Nth, Each, Member}
use Rattle.json_spots.specs.declared.step.Path.{Path}
use Rattle.json_spots.specs.declared.step.Wanted.{Wanted}
use Rattle.json_spots.specs.declared.step.Wanted.TheVariants as wanted
use Rattle.json_spots.specs.Spot.{By, root, name, index, Crumb, Spot}
use Rattle.json_spots.specs.Text.{is_plain}
use Rattle.json_forms.specs.Said.{Fault}

-- what a value should have been
abbrev pub wanted_text : Wanted → List ℕ
wanted_text wanted.Array = codes "an array"
wanted_text wanted.Object = codes "an object"
wanted_text wanted.Text = codes "a text"
wanted_text wanted.Number = codes "a whole number below 2^32"
wanted_text wanted.Message = codes "a message"
wanted_text wanted.Value = codes "a value, not null"
wanted_text wanted.Form = codes "JSON of a known form"
wanted_text wanted.OneForm = codes "JSON of one form, not of two"

-- as `.name` or `["a name"]`
unfoldable pub key_text : List ℕ → List ℕ
key_text key = if is_plain key then 0x2E ∷ key else codes "[\"" ++ key ++ codes "\"]"

abbrev pub index_text : ℕ → List ℕ
index_text at = 0x5B ∷ decimal at ++ 0x5D ∷ []

abbrev pub by_text : By → List ℕ
by_text root = codes "$"
by_text (name key) = key_text key
by_text (index at) = index_text at

-- the way to the first of these values, the others around it
abbrev pub trail_text : List Crumb → List ℕ
trail_text [] = []
trail_text (crumb ∷ outer) = trail_text outer ++ by_text crumb.by

abbrev pub step_text : Step → List ℕ
step_text (Key key) = key_text key.now
step_text (Nth at) = index_text at
step_text Each = codes "[]"
step_text Member = codes "{}"

abbrev pub steps_text : List Step → List ℕ
steps_text steps = flat_map step_text steps

-- the way to the value that is so many values out
abbrev pub spot_text : Spot → ℕ → List ℕ
spot_text spot up = trail_text (drop up (spot.here ∷ spot.outer))

abbrev pub path_text : Spot → Option Path → List ℕ
path_text spot None = spot_text spot 0
path_text spot (Some path) = spot_text spot path.out ++ steps_text path.steps.items

-- as `$[1].location.row: wanted a whole number below 2^32`
unfoldable pub refusal_text : Spot → Fault → List ℕ
refusal_text spot fault = path_text spot fault.path ++ codes ": wanted " ++ wanted_text fault.wanted

-- the names of members, in order
abbrev pub names_in : Members → List (List ℕ)
names_in no_members = []
names_in (member key value rest) = key ∷ names_in rest
