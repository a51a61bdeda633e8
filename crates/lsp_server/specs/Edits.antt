-- What changes make of an open document.
use Rattle.std.specs.Prelude.{◌≡◌, ℕ, ℤ, List, [], ◌∷◌, length, string_bytes, Option, Some, None, All, ⊤}
use Rattle.std.specs.List.{filter_map}
use Rattle.std.specs.Str.{IsUtf8}
use Rattle.text_places.specs.Places.{AreNearest}
use Rattle.text_places.specs.declared.encoding.Encoding.{Encoding}
use Rattle.text_places.specs.declared.place.Place.{Place}
use Rattle.client_text.specs.Changes.{IsRefusal}
use Rattle.client_text.specs.Document.{Document, IsEdited}
use Rattle.client_text.specs.declared.change.Change.{Change}
use Rattle.lsp_server.specs.declared.marks.Change.{Change as Moving}
use Rattle.oxc_protocol.specs.Parts.{OxcParts}
use Rattle.lsp_server.specs.Seen.{StandIn}
use Rattle.lsp_server.specs.Moved.{moved_diagnostic}
use Rattle.lsp_server.specs.Views.{OpenView, open_view}
use Rattle.lsp_server.specs.declared.documents.Edit.{Edit}
use Rattle.lsp_server.specs.declared.documents.Edit.TheVariants.{Made, Faulty}

-- a document that has just been opened
abbrev pub opened : Encoding → ℤ → List ℕ → OpenView
opened encoding version text = record { client = record { encoding = encoding; text = text; version = version }; found = [] }

abbrev pub with_version : OpenView → ℤ → OpenView
with_version document version = record document { client = record document.client { version = version } }

-- the bytes that a change replaces: from the boundary nearest to the one place to that nearest to the other, or all
abbrev pub IsWhere : Encoding → List ℕ → Option (Place × Place) → ℕ → ℕ → Type 0
IsWhere encoding text None start end = (start ≡ 0) × (end ≡ length text)
IsWhere encoding text (Some (from, to)) start end = AreNearest encoding text from to start end

-- so many bytes give way to those that a change inserts
abbrev pub moving : ℕ → ℕ → Change → Moving
moving start end change = record { start = start; end = end; inserted = length (string_bytes change.text) }

-- the text is UTF-8, and the labels of the findings stand in it
pub record Holds (client : Document) (found : List OxcParts) : Type 0 where
  pub text : IsUtf8 client.text
  pub stand : All (StandIn client.text) found

-- a change is made, and the findings move with it
pub record MovesOne (old : OpenView) (change : Change) (new : OpenView) : Type 0 where
  pub edited : IsEdited old.client old.client.version (change ∷ []) new.client
  pub start : ℕ
  pub end : ℕ
  pub place : IsWhere old.client.encoding old.client.text change.range start end
  pub found : new.found ≡ filter_map (moved_diagnostic (moving start end change)) old.found

-- changes are made, each on what the one before left
abbrev pub MovesAll : OpenView → List Change → OpenView → Type 0
MovesAll old [] new = new ≡ old
MovesAll old (change ∷ changes) new = (next : OpenView) × MovesOne old change next × MovesAll next changes new

-- all changes are made, or the first that can't be made is named
abbrev pub IsEdit : OpenView → List Change → Edit → Type 0
IsEdit document changes (Made client found) = MovesAll document changes (open_view client found.items)
IsEdit document changes (Faulty refusal) = IsRefusal document.client.encoding document.client.text changes refusal

abbrev pub HoldsMade : Edit → Type 0
HoldsMade (Made client found) = Holds client found.items
HoldsMade (Faulty refusal) = ⊤
