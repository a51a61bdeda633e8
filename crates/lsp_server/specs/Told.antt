-- What notifications do to the open documents, and what is told of them.
use Rattle.std.specs.Prelude.{◌≡◌, ◌≢◌, ℕ, ℤ, List, [], Option, Some, None, string_bytes, All}
use Rattle.serde_json.specs.Data.{Data}
use Rattle.serde_json.specs.View.{view}
use Rattle.source_location.specs.Index.{Fits}
use Rattle.client_text.specs.Changes.{IsRefusal}
use Rattle.client_text.specs.declared.change.Change.{Change}
use Rattle.oxc_protocol.specs.Parts.{OxcParts}
use Rattle.lsp_server.specs.Seen.{Seen, StandIn}
use Rattle.lsp_server.specs.Diagnostics.{published_value}
use Rattle.lsp_server.specs.Edits.{MovesAll, opened, with_version}
use Rattle.lsp_server.specs.Views.{OpenView}
use Rattle.lsp_server.specs.declared.message.Agreed.{Agreed}
use Rattle.lsp_server.specs.declared.message.Answer.{Answer}
use Rattle.lsp_server.specs.declared.message.Answer.TheVariants.{Capabilities, Null, Error, Published, Logged}
use Rattle.lsp_server.specs.declared.message.Answer.TheVariants as answer
use Rattle.lsp_server.specs.declared.message.Refused.{Refused}
use Rattle.lsp_server.specs.declared.message.Refused.TheVariants.{NotOpen, TooLong, Faulty}
use Rattle.lsp_server.specs.declared.message.Refused.TheVariants as why
use Rattle.lsp_server.specs.declared.message.Notice.{Notice}
use Rattle.lsp_server.specs.declared.message.Notice.TheVariants.{Exit, Opened, Changed, Saved, Closed, Malformed}
use Rattle.lsp_server.specs.declared.message.Notice.TheVariants as notice

-- the documents by their URIs
abbrev pub Documents : Type 0
Documents = List ℕ → Option OpenView

abbrev pub AreSame : Documents → Documents → Type 0
AreSame old new = (uri : List ℕ) → new uri ≡ old uri

-- one document is this, or is closed, and the others stay
pub record OnlyAt (uri : List ℕ) (document : Option OpenView) (old new : Documents) : Type 0 where
  pub here : new uri ≡ document
  pub others : (other : List ℕ) → uri ≢ other → new other ≡ old other

-- ---- what is published

-- an open document, and one that is closed, as a client sees it
abbrev pub seen_open : Agreed → List ℕ → OpenView → Seen
seen_open agreed uri document =
    record { uri = uri; version = Some document.client.version; encoding = document.client.encoding; related = agreed.related; text = document.client.text }

abbrev pub seen_closed : Agreed → List ℕ → Seen
seen_closed agreed uri = record { uri = uri; version = None; encoding = agreed.encoding; related = agreed.related; text = [] }

abbrev pub PublishesAs : Data → Answer → Type 0
PublishesAs meant (Capabilities id wanted) = ⊥
PublishesAs meant (Null id) = ⊥
PublishesAs meant (Error id code) = ⊥
PublishesAs meant (Published params) = view params.value ≡ meant
PublishesAs meant (answer.Refused why) = ⊥
PublishesAs meant (Logged text) = ⊥

-- the findings in an open document
abbrev pub PublishesOpen : Agreed → List ℕ → OpenView → Answer → Type 0
PublishesOpen agreed uri document = PublishesAs (published_value (seen_open agreed uri document) document.found)

-- an empty list
abbrev pub PublishesNone : Agreed → List ℕ → Answer → Type 0
PublishesNone agreed uri = PublishesAs (published_value (seen_closed agreed uri) [])

-- ---- notifications

-- a document is opened without findings, if its text fits
abbrev pub IsOpened : Agreed → List ℕ → ℤ → List ℕ → Documents → Documents → Option Answer → Type 0
IsOpened agreed uri version text old new None = Fits text × OnlyAt uri (Some (opened agreed.encoding version text)) old new
IsOpened agreed uri version text old new (Some told) = (told ≡ answer.Refused TooLong) × AreSame old new × ¬ Fits text

abbrev pub IsClosed : Agreed → List ℕ → Documents → Documents → Option Answer → Type 0
IsClosed agreed uri old new None = ⊥
IsClosed agreed uri old new (Some told) = OnlyAt uri None old new × PublishesNone agreed uri told

-- a change that can't be made is named, and the text stays
abbrev pub RefusesAs : OpenView → List Change → Refused → Type 0
RefusesAs document changes NotOpen = ⊥
RefusesAs document changes TooLong = ⊥
RefusesAs document changes why.Malformed = ⊥
RefusesAs document changes (Faulty refusal) = IsRefusal document.client.encoding document.client.text changes refusal

-- an open document's changes are made, and it is published with its findings, which moved with it; or one is named, and it stays
abbrev pub IsTextChanged : Agreed → List ℕ → ℤ → List Change → OpenView → OpenView → Answer → Type 0
IsTextChanged agreed uri version changes old new (Capabilities id wanted) = ⊥
IsTextChanged agreed uri version changes old new (Null id) = ⊥
IsTextChanged agreed uri version changes old new (Error id code) = ⊥
IsTextChanged agreed uri version changes old new (Published params) =
    MovesAll (with_version old version) changes new × PublishesOpen agreed uri new (Published params)
IsTextChanged agreed uri version changes old new (answer.Refused why) = (new ≡ old) × RefusesAs old changes why
IsTextChanged agreed uri version changes old new (Logged text) = ⊥

-- a text that changed is published with its findings, which moved with it
pub record IsMade (agreed : Agreed) (uri : List ℕ) (version : ℤ) (changes : List Change) (document : OpenView) (old new : Documents) (told : Answer) : Type 0 where
  pub next : OpenView
  pub moved : MovesAll (with_version document version) changes next
  pub only : OnlyAt uri (Some next) old new
  pub published : PublishesOpen agreed uri next told

abbrev pub IsChangedAs : Agreed → List ℕ → ℤ → List Change → OpenView → Documents → Documents → Answer → Type 0
IsChangedAs agreed uri version changes document old new (Capabilities id wanted) = ⊥
IsChangedAs agreed uri version changes document old new (Null id) = ⊥
IsChangedAs agreed uri version changes document old new (Error id code) = ⊥
IsChangedAs agreed uri version changes document old new (Published params) = IsMade agreed uri version changes document old new (Published params)
IsChangedAs agreed uri version changes document old new (answer.Refused why) = AreSame old new × RefusesAs document changes why
IsChangedAs agreed uri version changes document old new (Logged text) = ⊥

abbrev pub IsChanged : Agreed → List ℕ → ℤ → List Change → Option OpenView → Documents → Documents → Option Answer → Type 0
IsChanged agreed uri version changes document old new None = ⊥
IsChanged agreed uri version changes None old new (Some told) = AreSame old new × (told ≡ answer.Refused NotOpen)
IsChanged agreed uri version changes (Some document) old new (Some told) = IsChangedAs agreed uri version changes document old new told

-- what a notification does while a session runs
abbrev pub IsNoticed : Agreed → Notice → Documents → Documents → Option Answer → Type 0
IsNoticed agreed Exit old new told = AreSame old new × (told ≡ None)
IsNoticed agreed (Opened uri version text) old new told = IsOpened agreed (string_bytes uri) version (string_bytes text) old new told
IsNoticed agreed (Changed uri version changes) old new told =
    IsChanged agreed (string_bytes uri) version changes.items (old (string_bytes uri)) old new told
IsNoticed agreed (Closed uri) old new told = IsClosed agreed (string_bytes uri) old new told
IsNoticed agreed Saved old new told = AreSame old new × (told ≡ None)
IsNoticed agreed Malformed old new told = AreSame old new × (told ≡ Some (answer.Refused why.Malformed))
IsNoticed agreed notice.Unknown old new told = AreSame old new × (told ≡ None)

-- ---- findings that are shown

-- other findings are shown, if their labels stand in the text
abbrev pub IsShown : Agreed → List ℕ → List OxcParts → OpenView → OpenView → Option Answer → Type 0
IsShown agreed uri found old new None = (new ≡ old) × ¬ All (StandIn old.client.text) found
IsShown agreed uri found old new (Some told) = (new ≡ record old { found = found }) × PublishesOpen agreed uri new told

abbrev pub ShowsAs : Agreed → List ℕ → List OxcParts → Option OpenView → Documents → Documents → Option Answer → Type 0
ShowsAs agreed uri found None old new told = AreSame old new × (told ≡ None)
ShowsAs agreed uri found (Some document) old new None = AreSame old new × ¬ All (StandIn document.client.text) found
ShowsAs agreed uri found (Some document) old new (Some told) =
    OnlyAt uri (Some (record document { found = found })) old new × PublishesOpen agreed uri (record document { found = found }) told
