-- A finding, from an element.
use Rattle.std.specs.Prelude.{ℕ, List, [], ◌∷◌, Bool, false, if◌then◌else◌, Option, Some, None, option_map, map, flat_map}
use Rattle.std.specs.List.{list_any}
use Rattle.std.specs.Option.{option_or}
use Rattle.std.specs.Str.{bytes_eq}
use Rattle.oxc_protocol.specs.declared.protocol.Severity.{Severity}
use Rattle.json_spots.specs.declared.step.Path.{Path}
use Rattle.json_spots.specs.declared.step.Wanted.TheVariants as wanted
use Rattle.json_spots.specs.declared.spot.Arrival.{Arrival}
use Rattle.json_spots.specs.declared.spot.Arrival.TheVariants.{There, Null, Not}
use Rattle.json_spots.specs.Spot.{Spot, Reached, each, spot_view}
use Rattle.json_spots.specs.Said.{Said, nothing, words, figure, truth, other, said_at}
use Rattle.json_forms.specs.declared.form.List as code_list
use Rattle.json_forms.specs.declared.form.Row.{Row}
use Rattle.json_forms.specs.declared.form.Row.TheVariants.{Part, Only, Aside, Level, Constant}
use Rattle.json_forms.specs.declared.form.Side as code_side
use Rattle.json_forms.specs.declared.form.SideKind.{SideKind}
use Rattle.json_forms.specs.declared.finding.Beside as code_beside
use Rattle.json_forms.specs.declared.finding.Beside.TheVariants as besides_of
use Rattle.json_forms.specs.declared.finding.Finding as code_finding
use Rattle.json_forms.specs.declared.finding.Outcome as code_outcome
use Rattle.json_forms.specs.declared.finding.Outcome.TheVariants as outcomes
use Rattle.json_forms.specs.declared.keys.TheConstants as keys
use Rattle.json_forms.specs.Rows.{part, constant}
use Rattle.json_forms.specs.Said.{Fault, fault_view, text_at, text_fault, number_fault}
use Rattle.json_forms.specs.Severity.{severity_of}
use Rattle.json_forms.specs.Place.{Place, place_at, place_view, posn_fault}
use Rattle.json_forms.specs.Guard.{all_hold, any_holds}

-- ---- faults

unfoldable pub number_keys : List (List ℕ)
number_keys = map (λ key. key.now) keys.NUMBERS

unfoldable pub text_keys : List (List ℕ)
text_keys = map (λ key. key.now) keys.TEXTS

abbrev pub is_among : List (List ℕ) → List ℕ → Bool
is_among names key = list_any (λ own. bytes_eq own key) names

-- where a part that is a number, a text or a place in one text is something else
abbrev pub part_fault : List ℕ → List Path → Spot → Option Fault
part_fault key paths spot =
    if is_among number_keys key then number_fault paths spot else if is_among text_keys key then text_fault paths spot
    else if bytes_eq key keys.POSN.now then posn_fault paths spot else None

abbrev pub fault_in : Spot → Row → Option Fault
fault_in spot (Part key paths) = part_fault key.now paths.items spot
fault_in spot (Only guard) = None
fault_in spot (Aside guard) = None
fault_in spot (Level levels) = None
fault_in spot (Constant key word) = None

-- the first row that an element isn't as it wants
abbrev pub fault_of : List Row → Spot → Option Fault
fault_of [] spot = None
fault_of (row ∷ rows) spot = option_or (fault_in spot row) (fault_of rows spot)

-- ---- what is said beside a finding

pub record Said_beside : Type 0 where
  pub kind : SideKind
  pub place : Place
  pub text : Option (List ℕ)
  pub primary : Bool

pub data Beside : Type 0 where
  said : Said_beside → Beside
  wrong_at : Spot → Fault → Beside

abbrev pub is_true : Said → Bool
is_true nothing = false
is_true (words text) = false
is_true (figure text) = false
is_true (truth b) = b
is_true other = false

abbrev pub primary_at : List Path → Spot → Bool
primary_at [] spot = false
primary_at (path ∷ paths) spot = is_true (said_at path spot)

abbrev pub wrong : Spot → Fault → List Beside
wrong spot fault = wrong_at spot fault ∷ []

abbrev pub said_in : code_side.Side → Spot → Beside
said_in side spot = said (record {
  kind = side.kind;
  place = place_at side.rows.items spot;
  text = text_at (part side.rows.items keys.TEXT.now) spot;
  primary = primary_at (part side.rows.items keys.PRIMARY.now) spot;
})

abbrev pub beside_or : code_side.Side → Spot → Option Fault → List Beside
beside_or side spot None = said_in side spot ∷ []
beside_or side spot (Some fault) = wrong spot fault

abbrev pub beside_if : code_side.Side → Spot → Arrival → List Beside
beside_if side spot There = if all_hold side.rows.items spot then beside_or side spot (fault_of side.rows.items spot) else []
beside_if side spot Null = wrong spot (record { path = None; wanted = wanted.Value })
beside_if side spot (Not w) = wrong spot (record { path = None; wanted = w })

unfoldable pub beside_at : code_side.Side → Reached → List Beside
beside_at side reached = beside_if side reached.spot reached.arrival

-- one for each element of the side that its conditions let through
abbrev pub besides : code_side.Side → Spot → List Beside
besides side spot = flat_map (beside_at side) (each side.at.items spot)

abbrev pub sides_of : List code_side.Side → Spot → List Beside
sides_of sides spot = flat_map (λ side. besides side spot) sides

-- ---- findings

-- the message, or the code
abbrev pub message_at : List Row → Spot → Option (List ℕ)
message_at rows spot = option_or (text_at (part rows keys.MESSAGE.now) spot) (text_at (part rows keys.CODE.now) spot)

pub record Finding : Type 0 where
  pub place : Place
  pub severity : Severity
  pub scope : Option (List ℕ)
  pub code : Option (List ℕ)
  pub message : List ℕ
  pub help : Option (List ℕ)
  pub note : Option (List ℕ)
  pub url : Option (List ℕ)
  pub sides : List Beside

-- each part is what its row says
unfoldable pub finding_of : code_list.List → Spot → List ℕ → Finding
finding_of list spot message =
    record {
      place = place_at list.rows.items spot;
      severity = severity_of list.rows.items spot;
      scope = constant list.rows.items keys.SCOPE.now;
      code = text_at (part list.rows.items keys.CODE.now) spot;
      message = message;
      help = text_at (part list.rows.items keys.HELP.now) spot;
      note = text_at (part list.rows.items keys.NOTE.now) spot;
      url = text_at (part list.rows.items keys.URL.now) spot;
      sides = sides_of list.sides.items spot;
    }

-- what an element is
pub data Outcome : Type 0 where
  left : Outcome
  aside : List ℕ → Outcome
  null_at : Spot → Outcome
  found : Finding → Outcome
  refused : Spot → Fault → Outcome

abbrev pub told : code_list.List → Spot → Option (List ℕ) → Outcome
told list spot None = refused spot (record { path = None; wanted = wanted.Message })
told list spot (Some message) = if any_holds list.rows.items spot then aside message else found (finding_of list spot message)

abbrev pub read : code_list.List → Spot → Option Fault → Outcome
read list spot None = told list spot (message_at list.rows.items spot)
read list spot (Some fault) = refused spot fault

abbrev pub element : code_list.List → Spot → Outcome
element list spot = if all_hold list.rows.items spot then read list spot (fault_of list.rows.items spot) else left

abbrev pub arrived : code_list.List → Spot → Arrival → Outcome
arrived list spot There = element list spot
arrived list spot Null = null_at spot
arrived list spot (Not w) = refused spot (record { path = None; wanted = w })

unfoldable pub outcome_of : code_list.List → Reached → Outcome
outcome_of list reached = arrived list reached.spot reached.arrival

-- ---- the code's values

abbrev pub beside_view : code_beside.Beside → Beside
beside_view (besides_of.Said kind place text primary) = said (record {
  kind = kind;
  place = place_view place;
  text = option_map (λ t. t.now) text;
  primary = primary;
})
beside_view (besides_of.Wrong spot fault) = wrong_at (spot_view spot) (fault_view fault)

abbrev pub finding_view : code_finding.Finding → Finding
finding_view it =
    record {
      place = place_view it.place;
      severity = it.severity;
      scope = option_map (λ text. text.now) it.scope;
      code = option_map (λ text. text.now) it.code;
      message = it.message.now;
      help = option_map (λ text. text.now) it.help;
      note = option_map (λ text. text.now) it.note;
      url = option_map (λ text. text.now) it.url;
      sides = map beside_view it.sides.items;
    }

abbrev pub outcome_view : code_outcome.Outcome → Outcome
outcome_view outcomes.Left = left
outcome_view (outcomes.Aside text) = aside text.now
outcome_view (outcomes.Null spot) = null_at (spot_view spot)
outcome_view (outcomes.Found it) = found (finding_view it)
outcome_view (outcomes.Refused spot fault) = refused (spot_view spot) (fault_view fault)
