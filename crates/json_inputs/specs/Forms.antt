-- The forms that values are read by.
use Rattle.std.specs.Prelude.{◌≡◌, ℕ, List, ◌++◌, codes, decimal, if◌then◌else◌, string_bytes, String, Option, Some, None}
use Rattle.std.specs.List.{flat_map, list_any}
use Rattle.std.specs.declared.alloc.Global.{Global}
use Rattle.json_forms.specs.declared.form.Form.{Form}
use Rattle.json_forms.specs.declared.told.Forms.{Forms}
use Rattle.json_forms.specs.Print.{forms_text}
use Rattle.json_forms.specs.Told.{name_is, tool_name}

abbrev pub row_text : String Global → List ℕ
row_text row = string_bytes row ++ codes "\n"

-- the user's forms, each in a row
unfoldable pub own_text : List (String Global) → List ℕ
own_text rows = flat_map row_text rows

-- a tool's name, if a form has it
abbrev pub tool_of : List Form → Option (List ℕ) → Option (List ℕ)
tool_of known None = None
tool_of known (Some name) = if list_any (name_is name) known then Some name else None

-- the forms are the user's, and those that are known
pub record AreForms (own : List ℕ) (tool : Option (List ℕ)) (forms : Forms) : Type 0 where
  pub own_are : forms_text forms.own.items ≡ own
  pub tool_is : tool_name forms ≡ tool_of forms.known.items tool

-- a line about a row that is no form; no clause says which
pub record IsNoForms (line : List ℕ) : Type 0 where
  pub row : ℕ
  pub word : List ℕ
  pub is : line ≡ codes "girzohal: --json-shape " ++ (decimal row ++ (codes ": " ++ (word ++ codes ": wanted a form, as --help says\n")))
