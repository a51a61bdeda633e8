-- Forms that are told by the value that the XML of findings is read as.
use Rattle.std.specs.Prelude.{◌≡◌, List, [], ◌∷◌, Bool, true, false, not, ◌&&◌, ◌||◌, None, codes, filter}
use Rattle.std.specs.List.{list_all, list_any}
use Rattle.std.specs.Str.{bytes_eq}
use Rattle.json.specs.Json.{Json}
use Rattle.json_spots.specs.declared.step.Step.{Step}
use Rattle.json_spots.specs.declared.step.Step.TheVariants.{Key, Nth, Each, Member}
use Rattle.json_spots.specs.declared.mark.MarkRow.{MarkRow}
use Rattle.json_forms.specs.declared.form.Form.{Form}
use Rattle.json_forms.specs.declared.told.Forms.{Forms}
use Rattle.json_forms.specs.Told.{candidates, is_open}

-- steps lead to the value itself, or to its element
abbrev pub lead_in : List Step → Bool
lead_in [] = true
lead_in (Key key ∷ []) = bytes_eq (codes "checkstyle") key.now
lead_in (Key key ∷ (step ∷ steps)) = false
lead_in (Nth at ∷ steps) = false
lead_in (Each ∷ steps) = false
lead_in (Member ∷ steps) = false

-- the first step leads to nothing in the value
abbrev pub lead_past : List Step → Bool
lead_past [] = false
lead_past (Key key ∷ steps) = not (bytes_eq (codes "checkstyle") key.now)
lead_past (Nth at ∷ steps) = true
lead_past (Each ∷ steps) = true
lead_past (Member ∷ steps) = false

-- a row that wants an object there
abbrev pub takes_it : MarkRow → Bool
takes_it row = row.kinds.object && lead_in row.steps.items

-- a row that wants something elsewhere
abbrev pub misses_it : MarkRow → Bool
misses_it row = not row.kinds.nothing && lead_past row.steps.items

-- a mark such as `mark=.:o mark=checkstyle:o`
abbrev pub is_of_checkstyle : Form → Bool
is_of_checkstyle form = list_all takes_it form.mark.items

-- a mark such as `mark=.:o mark=pmd:o` or `mark=[].file:t`, or one that is asked last, as `mark={}[].ruleNames:a`
abbrev pub is_apart : Form → Bool
is_apart form = is_open form || list_any misses_it form.mark.items

-- where no form is given or asked by name, one form is of Checkstyle, and each other one is apart, the value has this form alone
abbrev pub IsToldAlone : Forms → Json → Type 0
IsToldAlone forms value =
    (form : Form) → forms.own.items ≡ [] → forms.tool ≡ None → list_all (λ it. is_of_checkstyle it || is_apart it) forms.known.items ≡ true → filter is_of_checkstyle forms.known.items ≡ form ∷ []
    → candidates forms value ≡ form ∷ []
