-- What is made of the XML that a tool writes.
use Rattle.std.specs.Prelude.{◌≡◌, ◌⊎◌, ℕ, List, [], ◌∷◌, Bool, false, String, string_bytes, Option, Some, None, option_map}
use Rattle.std.specs.declared.alloc.Global.{Global}
use Rattle.found_reports.specs.Found.{Found}
use Rattle.json.specs.Json.{Json}
use Rattle.json_forms.specs.declared.told.Forms.{Forms}
use Rattle.json_inputs.specs.Forms.{AreForms, IsNoForms, own_text}
use Rattle.json_inputs.specs.Input.{IsRefused, first_refused, said_in}
use Rattle.json_inputs.specs.Xml.{IsNoXml}
use Rattle.xml_values.specs.Document.{value_of}
use Rattle.girzohal_options.specs.declared.Asked.{Asked}
use Rattle.girzohal_run.specs.Joined.{FindsParts, WritesFound}
use Rattle.girzohal_run.specs.Told.{Told}
use Rattle.girzohal_run.specs.Values.{FindsBeside}

-- the value of bytes, and the forms by which it is read: the user's own and the known ones
pub record HasXml (own : List (String Global)) (tool : Option (String Global)) (bytes : List ℕ) (value : Json) (forms : Forms) : Type 0 where
  pub is : value_of bytes ≡ Some value
  pub forms_are : AreForms (own_text own) (option_map string_bytes tool) forms

-- what is found in it; no lines stand beside it
pub record FindsXml (told : Told) (asked : Asked) (bytes : List ℕ) (found : List Found) (aside : List ℕ) : Type 0 where
  pub value : Json
  pub forms : Forms
  pub has : HasXml asked.json_shapes.items asked.tool bytes value forms
  pub none_refused : first_refused forms [] (value ∷ []) ≡ None
  pub finds : FindsBeside told asked (said_in forms [] (value ∷ [])) [] found aside

-- what is written of it
pub record MakesXml (told : Told) (asked : Asked) (bytes text aside : List ℕ) (reached : Bool) : Type 0 where
  pub it : FindsParts
  pub finds : FindsXml told asked bytes it.found it.aside
  pub writes : WritesFound asked false (it ∷ []) text aside reached

-- it isn't as its form wants it, or has none, as the line says
pub record RefusesXml (own : List (String Global)) (tool : Option (String Global)) (bytes line : List ℕ) : Type 0 where
  pub value : Json
  pub forms : Forms
  pub has : HasXml own tool bytes value forms
  pub refused : IsRefused forms [] (value ∷ []) line

-- it is no XML that is read, the user's own forms are none, or its value is refused
abbrev pub IsNoXmlInput : List (String Global) → Option (String Global) → List ℕ → List ℕ → Type 0
IsNoXmlInput own tool bytes line = IsNoXml bytes line ⊎ (IsNoForms line ⊎ RefusesXml own tool bytes line)
