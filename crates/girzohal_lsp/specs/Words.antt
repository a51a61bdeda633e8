-- What the options mean to the server.
use Rattle.std.specs.Prelude.{ℕ, List, [], ◌∷◌, nat_lt, length, string_bytes, if◌then◌else◌, ◌&&◌, Bool, Option, Some, None, is_some}
use Rattle.std.specs.declared.string.String.{String}
use Rattle.girzohal_options.specs.declared.Asked.{Asked as Options}
use Rattle.girzohal_options.specs.declared.InputForm.{InputForm}
use Rattle.girzohal_options.specs.declared.InputForm.TheVariants as input
use Rattle.girzohal_lsp.specs.declared.words.Form.{Form}
use Rattle.girzohal_lsp.specs.declared.words.Form.TheVariants as form

-- the server reads no documents, and no other JSON than logs
abbrev pub form_meant : InputForm → Option Form
form_meant input.Auto = Some form.Auto
form_meant input.Lines = Some form.Lines
form_meant input.Sarif = Some form.Sarif
form_meant input.Document = None
form_meant input.Json = None

-- the path of a log isn't empty
abbrev pub log_meant : {A : Type 0} → List (String A) → Option (List ℕ)
log_meant [] = None
log_meant (path ∷ rest) = if nat_lt 0 (length (string_bytes path)) then Some (string_bytes path) else None

abbrev pub can_serve : Options → Bool
can_serve asked = is_some (form_meant asked.from) && is_some (log_meant asked.files.items)
