-- All findings of a value.
use Rattle.std.specs.Prelude.{List, [], ◌∷◌, ◌++◌, ℕ, Bool, false, not, Option, Some, None, map, flat_map, filter, filter_map}
use Rattle.std.specs.Option.{option_or}
use Rattle.json.specs.Json.{Json}
use Rattle.json_spots.specs.Spot.{Spot, Reached, root, each, spot_view}
use Rattle.json_spots.specs.declared.spot.Arrival.{Arrival}
use Rattle.json_spots.specs.declared.spot.Arrival.TheVariants.{There, Null, Not}
use Rattle.json_forms.specs.declared.form.List as code_list
use Rattle.json_forms.specs.declared.read.Aside as code_aside
use Rattle.json_forms.specs.declared.read.Aside.TheVariants as asides
use Rattle.json_forms.specs.declared.read.Reading as code_reading
use Rattle.json_forms.specs.declared.read.ReadError as code_error
use Rattle.json_forms.specs.declared.read.ReadError.TheVariants as errors
use Rattle.json_forms.specs.Guard.{all_hold}
use Rattle.json_forms.specs.Said.{Fault, fault_view}
use Rattle.json_forms.specs.Finding.{Finding, finding_view, Outcome, left, aside, null_at, found, refused, outcome_of}

abbrev pub root_spot : Json → Spot
root_spot value = record { here = record { value = value; by = root }; outer = [] }

-- one outcome for each element of a list, in order
unfoldable pub outcomes_in : code_list.List → Json → List Outcome
outcomes_in list value = map (outcome_of list) (each list.at.items (root_spot value))

-- those of the lists, in order
abbrev pub outcomes_of : List code_list.List → Json → List Outcome
outcomes_of lists value = flat_map (λ list. outcomes_in list value) lists

-- ---- the elements of lists

abbrev pub elements_in : code_list.List → Json → List Reached
elements_in list value = each list.at.items (root_spot value)

abbrev pub elements_of : List code_list.List → Json → List Reached
elements_of lists value = flat_map (λ list. elements_in list value) lists

abbrev pub fails_at : code_list.List → Spot → Arrival → Bool
fails_at list spot There = not (all_hold list.rows.items spot)
fails_at list spot Null = false
fails_at list spot (Not w) = false

-- whether an element doesn't meet the conditions of its list
abbrev pub fails : code_list.List → Reached → Bool
fails list reached = fails_at list reached.spot reached.arrival

abbrev pub left_in : code_list.List → Json → List Reached
left_in list value = filter (fails list) (elements_in list value)

-- the elements that don't meet the conditions of their lists
abbrev pub left_of : List code_list.List → Json → List Reached
left_of lists value = flat_map (λ list. left_in list value) lists

-- ---- readings

abbrev pub outcome_list : Outcome → List Outcome
outcome_list outcome = outcome ∷ []

pub record Refusal : Type 0 where
  pub spot : Spot
  pub fault : Fault

-- what is reported, and is no finding
pub data Aside : Type 0 where
  said : List ℕ → Aside
  null_there : Spot → Aside

abbrev pub found_in : Outcome → Option Finding
found_in left = None
found_in (aside text) = None
found_in (null_at spot) = None
found_in (found it) = Some it
found_in (refused spot fault) = None

abbrev pub aside_in : Outcome → Option Aside
aside_in left = None
aside_in (aside text) = Some (said text)
aside_in (null_at spot) = Some (null_there spot)
aside_in (found it) = None
aside_in (refused spot fault) = None

abbrev pub refusal_in : Outcome → Option Refusal
refusal_in left = None
refusal_in (aside text) = None
refusal_in (null_at spot) = None
refusal_in (found it) = None
refusal_in (refused spot fault) = Some (record { spot = spot; fault = fault })

abbrev pub first_refusal : List Outcome → Option Refusal
first_refusal [] = None
first_refusal (outcome ∷ outcomes) = option_or (refusal_in outcome) (first_refusal outcomes)

pub record Reading : Type 0 where
  pub found : List Finding
  pub aside : List Aside

abbrev pub nothing_read : Reading
nothing_read = record { found = []; aside = [] }

-- what outcomes add to a reading: their findings, and what is reported aside, in order
unfoldable pub taken : Reading → List Outcome → Reading
taken reading outcomes =
    record {
      found = reading.found ++ filter_map found_in outcomes;
      aside = reading.aside ++ filter_map aside_in outcomes;
    }

-- ---- the code's values

abbrev pub aside_view : code_aside.Aside → Aside
aside_view (asides.Said text) = said text.now
aside_view (asides.Null spot) = null_there (spot_view spot)

abbrev pub reading_view : code_reading.Reading → Reading
reading_view it = record { found = map finding_view it.found.items; aside = map aside_view it.aside.items }

abbrev pub refusal_view : code_error.ReadError → Option Refusal
refusal_view (errors.Refused spot fault) = Some (record { spot = spot_view spot; fault = fault_view fault })
refusal_view errors.OutOfMemory = None
