-- The form of a value.
use Rattle.std.specs.Prelude.{◌≡◌, ℕ, List, [], ◌∷◌, Bool, true, false, not, if◌then◌else◌, Option, Some, None, option_map, filter, find, take}
use Rattle.std.specs.List.{list_any}
use Rattle.std.specs.Option.{option_to_list}
use Rattle.std.specs.Str.{bytes_eq}
use Rattle.json.specs.Json.{Json, null, boolean, number, string, array, object, no_items, item, no_members, member}
use Rattle.json_spots.specs.declared.step.Step.{Step}
use Rattle.json_spots.specs.declared.step.Step.TheVariants.{Key, Nth, Each, Member}
use Rattle.json_spots.specs.declared.mark.MarkRow.{MarkRow}
use Rattle.json_spots.specs.Mark.{has, leads}
use Rattle.json_forms.specs.declared.form.Form.{Form}
use Rattle.json_forms.specs.declared.form.List as code_list
use Rattle.json_forms.specs.declared.told.Forms.{Forms}
use Rattle.json_forms.specs.declared.told.Told as code_told
use Rattle.json_forms.specs.declared.told.Told.TheVariants as told

abbrev pub is_hollow : Json → Bool
is_hollow null = true
is_hollow (boolean b) = false
is_hollow (number text) = false
is_hollow (string text) = false
is_hollow (array no_items) = true
is_hollow (array (item value rest)) = false
is_hollow (object no_members) = true
is_hollow (object (member key value rest)) = false

abbrev pub begins_with_member : Step → Bool
begins_with_member (Key key) = false
begins_with_member (Nth at) = false
begins_with_member Each = false
begins_with_member Member = true

abbrev pub steps_open : List Step → Bool
steps_open [] = false
steps_open (step ∷ steps) = begins_with_member step

abbrev pub row_is_open : MarkRow → Bool
row_is_open row = steps_open row.steps.items

-- whether a row of the mark begins with `{}`
abbrev pub is_open : Form → Bool
is_open form = list_any row_is_open form.mark.items

abbrev pub fits : Bool → Json → Form → Bool
fits asked value form = if (if is_open form then asked else not asked) then has form.mark.items value else false

abbrev pub lists_lead : Json → List code_list.List → Bool
lists_lead value [] = false
lists_lead value (list ∷ lists) = leads list.at.items value

-- whether the first list leads to something
abbrev pub first_lead : Json → Form → Bool
first_lead value form = lists_lead value form.lists.items

abbrev pub name_is : List ℕ → Form → Bool
name_is name form = bytes_eq form.name.now name

abbrev pub unless_none : List Form → List Form → List Form
unless_none [] others = others
unless_none (form ∷ forms) others = form ∷ forms

-- those whose mark the value has; the open ones if there is no other
abbrev pub marked : List Form → Json → List Form
marked forms value = unless_none (filter (fits false value) forms) (filter (fits true value) forms)

abbrev pub known_candidates : Option (List ℕ) → List Form → Json → List Form
known_candidates None forms value = marked forms value
known_candidates (Some name) forms value = option_to_list (find (name_is name) forms)

abbrev pub own_or : Option Form → List Form → List Form
own_or None others = others
own_or (Some form) others = form ∷ []

abbrev pub tool_name : Forms → Option (List ℕ)
tool_name forms = option_map (λ name. name.now) forms.tool

-- the forms that a value has
unfoldable pub candidates : Forms → Json → List Form
candidates forms value = own_or (find (first_lead value) forms.own.items) (known_candidates (tool_name forms) forms.known.items value)

-- none, the one, or the first two of the forms that a value has
abbrev pub IsToldOf : code_told.Told → List Form → Type 0
IsToldOf told.None forms = forms ≡ []
IsToldOf (told.One form) forms = forms ≡ form.now ∷ []
IsToldOf (told.Two form other) forms = take 2 forms ≡ form.now ∷ other.now ∷ []
