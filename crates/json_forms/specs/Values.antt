-- The findings of several values.
use Rattle.std.specs.Prelude.{◌≡◌, List, [], ◌∷◌, ◌++◌, if◌then◌else◌, None, map}
use Rattle.std.specs.declared.alloc.Global.{Global}
use Rattle.json.specs.Value.{value_view}
use Rattle.json.specs.declared.value.Value.{Value}
use Rattle.json.specs.Json.{Json}
use Rattle.json_spots.specs.declared.step.Wanted.{Wanted}
use Rattle.json_spots.specs.declared.step.Wanted.TheVariants as wanted
use Rattle.json_forms.specs.declared.form.Form.{Form}
use Rattle.json_forms.specs.declared.told.Forms.{Forms}
use Rattle.json_forms.specs.Finding.{Outcome, refused}
use Rattle.json_forms.specs.Read.{Reading, Refusal, nothing_read, outcomes_of, root_spot, taken}
use Rattle.json_forms.specs.Told.{candidates, is_hollow}

abbrev pub whole_refusal : Json → Wanted → Refusal
whole_refusal value w = record { spot = root_spot value; fault = record { path = None; wanted = w } }

abbrev pub refused_whole : Json → Wanted → List Outcome
refused_whole value w = refused (root_spot value) (record { path = None; wanted = w }) ∷ []

-- by the one form; none and two are refused, but `[]`, `{}` and null say nothing
abbrev pub answers_by : List Form → Json → List Outcome
answers_by [] value = if is_hollow value then [] else refused_whole value wanted.Form
answers_by (form ∷ []) value = outcomes_of form.lists.items value
answers_by (form ∷ other ∷ forms) value = refused_whole value wanted.OneForm

-- what the elements of a value are
unfoldable pub answers : Forms → Json → List Outcome
answers forms value = answers_by (candidates forms value) value

-- what a value says
abbrev pub reading_of : Forms → Json → Reading
reading_of forms value = taken nothing_read (answers forms value)

abbrev pub one_reading : Reading → List Reading
one_reading reading = reading ∷ []

-- values that come one after the other give the readings of both
abbrev pub ReadsBoth : Forms → List (Value Global) → List Reading → List Reading → Type 0
ReadsBoth forms values old all = (front back : List (Value Global)) → values ≡ front ++ back
    → all ≡ old ++ map (reading_of forms) (map value_view front) ++ map (reading_of forms) (map value_view back)
