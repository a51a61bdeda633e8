-- Why nothing is made of XML.
use Rattle.std.proofs.Common.{◌≡◌, ◌⊎◌, ℕ, List, [], ◌∷◌, String, Option, inl, inr}
use Rattle.std.specs.declared.alloc.Global.{Global}
use Rattle.json.specs.Json.{Json}
use Rattle.json_forms.specs.declared.told.Forms.{Forms}
use Rattle.json_inputs.specs.Forms.{IsNoForms}
use Rattle.json_inputs.specs.Input.{IsRefused}
use Rattle.json_inputs.specs.Values.{SaysRefused}
use Rattle.json_inputs.specs.Xml.{IsNoXml}
use Rattle.json_inputs.specs.declared.error.InputError.{InputError}
use Rattle.girzohal_run.specs.Made.{HasCause, Says, SaysWhy}
use Rattle.girzohal_run.specs.Xml.{HasXml, IsNoXmlInput}
use Rattle.girzohal_run.specs.declared.fault.Fault.{Fault}
use Rattle.girzohal_run.specs.declared.fault.Fault.TheVariants.{NoForm, OutOfMemory}
use Rattle.girzohal_run.proofs.ValuesLemmas.{says_more}

pub no_xml : (own : List (String Global)) (tool : Option (String Global)) (bytes : List ℕ) (why : InputError) (fault : Fault) → SaysRefused (IsNoXml bytes) why
    → SaysWhy why fault → HasCause (IsNoXmlInput own tool) bytes fault
no_xml own tool bytes why fault cause says = says_more why fault (λ line is. inl is) cause says

pub no_forms : (own : List (String Global)) (tool : Option (String Global)) (bytes : List ℕ) (why : InputError) (fault : Fault) → SaysRefused IsNoForms why
    → SaysWhy why fault → HasCause (IsNoXmlInput own tool) bytes fault
no_forms own tool bytes why fault cause says = says_more why fault (λ line is. inr (inl is)) cause says

pub refused : (own : List (String Global)) (tool : Option (String Global)) (bytes : List ℕ) (value : Json) (forms : Forms)
    → HasXml own tool bytes value forms → (fault : Fault)
    → Says (IsRefused forms [] (value ∷ [])) fault → HasCause (IsNoXmlInput own tool) bytes fault
refused own tool bytes value forms has (NoForm said) says = inr (inr (record { value = value; forms = forms; has = has; refused = says }))
refused own tool bytes value forms has OutOfMemory says = tt
