-- The open documents of a server.
use Rattle.std.specs.Prelude.{◌≡◌, ℕ, List, map, Option, string_bytes}
use Rattle.std.specs.BTreeMap.{get_by_text, keys}
use Rattle.lsp_server.specs.Views.{OpenView}
use Rattle.lsp_server.specs.declared.server.Server.{Server}

-- the document of a URI
abbrev pub document_of : Server → List ℕ → Option OpenView
document_of server uri = get_by_text server.documents uri

-- the URIs of all documents
abbrev pub open_uris : Server → List (List ℕ)
open_uris server = map string_bytes (keys server.documents)

-- nothing that a client could see has changed
pub record IsKept (old new : Server) : Type 0 where
  pub phase : new.phase ≡ old.phase
  pub agreed : new.agreed ≡ old.agreed
  pub documents : (uri : List ℕ) → document_of new uri ≡ document_of old uri
