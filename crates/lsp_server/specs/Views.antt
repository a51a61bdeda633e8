-- What contracts see of an open document.
use Rattle.std.specs.Prelude.{◌≡◌, List}
use Rattle.client_text.specs.Document.{Document}
use Rattle.oxc_protocol.specs.Parts.{OxcParts}

-- the document as its client edits it, and the findings in its text
pub record OpenView : Type 0 where
  pub client : Document
  pub found : List OxcParts

abbrev pub open_view : Document → List OxcParts → OpenView
open_view client found = record { client = client; found = found }

-- another document of the same text, in the same units, under any version
pub record IsSpareOf (client spare : Document) : Type 0 where
  pub text : spare.text ≡ client.text
  pub encoding : spare.encoding ≡ client.encoding
