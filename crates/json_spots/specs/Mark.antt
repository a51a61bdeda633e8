-- Marks: which values are there, and of which kinds.
use Rattle.std.specs.Prelude.{List, [], ◌∷◌, Bool, false, not, ◌&&◌, ◌||◌, Option, Some, None}
use Rattle.std.specs.List.{list_all}
use Rattle.json.specs.Json.{Json, null, boolean, number, string, array, object, Items, no_items, item, Members, no_members, member}
use Rattle.json.specs.Find.{get, at}
use Rattle.json_spots.specs.declared.step.Step.{Step}
use Rattle.json_spots.specs.declared.step.Step.TheVariants.{Key, Nth, Each, Member}
use Rattle.json_spots.specs.declared.mark.Kinds.{Kinds}
use Rattle.json_spots.specs.declared.mark.MarkRow.{MarkRow}
use Rattle.json_spots.specs.declared.mark.TheConstants as constants

abbrev pub takes : Kinds → Json → Bool
takes kinds null = kinds.null
takes kinds (boolean b) = kinds.boolean
takes kinds (number text) = kinds.number
takes kinds (string text) = kinds.text
takes kinds (array items) = kinds.array
takes kinds (object ms) = kinds.object

abbrev pub some_item : (Json → Bool) → Items → Bool
some_item test no_items = false
some_item test (item value rest) = test value || some_item test rest

abbrev pub some_member : (Json → Bool) → Members → Bool
some_member test no_members = false
some_member test (member key value rest) = test value || some_member test rest

abbrev pub some_found : (Json → Bool) → Option Json → Bool
some_found test None = false
some_found test (Some value) = test value

abbrev pub in_items : (Json → Bool) → Json → Bool
in_items test null = false
in_items test (boolean b) = false
in_items test (number text) = false
in_items test (string text) = false
in_items test (array items) = some_item test items
in_items test (object ms) = false

abbrev pub in_members : (Json → Bool) → Json → Bool
in_members test null = false
in_members test (boolean b) = false
in_members test (number text) = false
in_members test (string text) = false
in_members test (array items) = false
in_members test (object ms) = some_member test ms

-- whether some value to which a step leads passes a test
abbrev pub some_in : (Json → Bool) → Step → Json → Bool
some_in test (Key key) value = some_found test (get key.now value)
some_in test (Nth n) value = some_found test (at n value)
some_in test Each value = in_items test value
some_in test Member value = in_members test value

-- whether some value to which steps lead is of one of these kinds
unfoldable pub leads_to : Kinds → List Step → Json → Bool
leads_to kinds [] value = takes kinds value
leads_to kinds (step ∷ steps) value = some_in (leads_to kinds steps) step value

-- whether steps lead to some value that isn't null
unfoldable pub leads : List Step → Json → Bool
leads steps value = leads_to constants.SOME steps value

-- a row holds if some value is of one of its kinds, or if there is none and it takes nothing
unfoldable pub holds : MarkRow → Json → Bool
holds row value =
    leads_to row.kinds row.steps.items value || (row.kinds.nothing && not (leads_to constants.ANY row.steps.items value))

-- whether each row of a mark holds
unfoldable pub has : List MarkRow → Json → Bool
has mark value = list_all (λ row. holds row value) mark
