-- What a body is read as.
use Rattle.std.specs.Prelude.{◌≡◌, ℕ, List, Some, None}
use Rattle.std.specs.Str.{IsUtf8}
use Rattle.serde_json.specs.Data.{Data}
use Rattle.serde_json.specs.Read.{read}
use Rattle.lsp_server.specs.Meant.{said_by, said_in}
use Rattle.lsp_server.specs.declared.message.Message.{Message}
use Rattle.lsp_server.specs.declared.message.Message.TheVariants.{Request, Notification, NoJson}

-- a message is what the body's value means; it is told as no JSON where the body is none, and only there
pub record Means (message : Message) (body : List ℕ) : Type 0 where
  pub value : Data
  pub is_read : read body ≡ Some value
  pub means : said_by message ≡ Some (said_in value)

abbrev pub IsReadAs : Message → List ℕ → Type 0
IsReadAs NoJson body = IsUtf8 body → read body ≡ None
IsReadAs (Request id method) body = Means (Request id method) body
IsReadAs (Notification notice) body = Means (Notification notice) body
