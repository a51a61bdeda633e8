-- What a message and a look-up do.
use Rattle.std.specs.Prelude.{◌≡◌, ◌⊎◌, ℕ, List, [], ◌∷◌, ◌++◌, Option, Some, None, codes, string_bytes, if◌then◌else◌}
use Rattle.std.specs.List.{flat_map}
use Rattle.std.specs.Option.{option_to_list}
use Rattle.oxc_protocol.specs.Parts.{OxcParts}
use Rattle.source_store.specs.Named.{path_in}
use Rattle.source_store.specs.declared.named.Spelling.TheVariants.{Uri}
use Rattle.lsp_server.specs.Bodies.{IsReadAs}
use Rattle.lsp_server.specs.Documents.{document_of, open_uris}
use Rattle.lsp_server.specs.Session.{answered_by, asked as asked_by, is_running, next_phase}
use Rattle.lsp_server.specs.Steps.{IsStep}
use Rattle.lsp_server.specs.Told.{AreSame, Documents, ShowsAs}
use Rattle.lsp_server.specs.Views.{OpenView}
use Rattle.lsp_server.specs.declared.message.Agreed.{Agreed}
use Rattle.lsp_server.specs.declared.message.Answer.{Answer}
use Rattle.lsp_server.specs.declared.message.Answer.TheVariants.{Capabilities, Null, Error, Published, Refused, Logged}
use Rattle.lsp_server.specs.declared.message.Message.{Message}
use Rattle.lsp_server.specs.declared.message.Message.TheVariants.{Request, Notification, NoJson}
use Rattle.lsp_server.specs.declared.message.Notice.{Notice}
use Rattle.lsp_server.specs.declared.message.Notice.TheVariants.{Exit, Opened, Changed, Saved, Closed, Malformed}
use Rattle.lsp_server.specs.declared.message.Notice.TheVariants as notice
use Rattle.lsp_server.specs.declared.server.Server.{Server}
use Rattle.girzohal_lsp.specs.Found.{ShowsAt}
use Rattle.girzohal_lsp.specs.Kept.{IsLogOf}
use Rattle.girzohal_lsp.specs.declared.log.LogFile.{LogFile}
use Rattle.girzohal_lsp.specs.declared.log.LogFile.TheVariants.{Sarif, Lines, Fault}
use Rattle.girzohal_lsp.specs.declared.serve.Handled.{Handled}
use Rattle.girzohal_lsp.specs.declared.serve.Handled.TheVariants.{Answers, Waits}
use Rattle.girzohal_lsp.specs.declared.serve.Wanted.{Wanted}
use Rattle.girzohal_lsp.specs.declared.serve.Wanted.TheVariants as wanted
use Rattle.girzohal_lsp.specs.declared.words.Asked.{Asked}

-- ---- one document

-- what the log has for an open document is shown in place of what was, and published
pub record ShowsFound (asked : Asked) (log : LogFile) (agreed : Agreed) (uri : List ℕ) (document : OpenView) (old new : Documents) (told : Answer) : Type 0 where
  pub found : List OxcParts
  pub finds : ShowsAt asked log (path_in Uri uri) document.client.text found
  pub shows : ShowsAs agreed uri found (Some document) old new (Some told)

-- of a document that isn't open nothing is told
abbrev pub IsRefreshed : Asked → LogFile → Agreed → List ℕ → Option OpenView → Documents → Documents → Option Answer → Type 0
IsRefreshed asked log agreed uri None old new told = AreSame old new × (told ≡ None)
IsRefreshed asked log agreed uri (Some document) old new None = ⊥
IsRefreshed asked log agreed uri (Some document) old new (Some told) = ShowsFound asked log agreed uri document old new told

-- the same of a server, which is else as it was
pub record Refreshes (asked : Asked) (log : LogFile) (uri : List ℕ) (old new : Server) (told : Option Answer) : Type 0 where
  pub phase : new.phase ≡ old.phase
  pub agreed : new.agreed ≡ old.agreed
  pub shows : IsRefreshed asked log old.agreed uri (document_of old uri) (document_of old) (document_of new) told

-- ---- a look-up

-- documents, one behind another, and all that is told of them, in their order
abbrev pub AreRefreshed : Asked → LogFile → Server → List (List ℕ) → Server → List Answer → Type 0
AreRefreshed asked log old [] new told = (new ≡ old) × (told ≡ [])
AreRefreshed asked log old (uri ∷ rest) new told =
    (between : Server) × (first : Option Answer) × (later : List Answer)
    × Refreshes asked log uri old between first × AreRefreshed asked log between rest new later × (told ≡ option_to_list first ++ later)

abbrev pub IsLogged : List ℕ → Answer → Type 0
IsLogged text (Capabilities id wanted) = ⊥
IsLogged text (Null id) = ⊥
IsLogged text (Error id code) = ⊥
IsLogged text (Published params) = ⊥
IsLogged text (Refused why) = ⊥
IsLogged text (Logged line) = string_bytes line ≡ text

-- of a log that is none the client is told its path and why, and else nothing
abbrev pub TellsFault : Asked → LogFile → Option Answer → Type 0
TellsFault asked (Sarif log) told = told ≡ None
TellsFault asked (Lines text) told = told ≡ None
TellsFault asked (Fault why) None = ⊥
TellsFault asked (Fault why) (Some told) = IsLogged (asked.log.now ++ codes ": " ++ string_bytes why) told

-- documents are shown so, and what is told of them comes behind what was told before
pub record AddsRefreshed (asked : Asked) (log : LogFile) (uris : List (List ℕ)) (old new : Server) (before after : List Answer) : Type 0 where
  pub told : List Answer
  pub shows : AreRefreshed asked log old uris new told
  pub all : after ≡ before ++ told

-- in the log of these bytes is looked up: what is wrong with it is told, and then what it has for each of these documents is shown
pub record LooksUp (asked : Asked) (bytes : Option (List ℕ)) (uris : List (List ℕ)) (old new : Server) (before after : List Answer) : Type 0 where
  pub log : LogFile
  pub is_read : IsLogOf asked bytes log
  pub fault : Option Answer
  pub tells : TellsFault asked log fault
  pub shows : AddsRefreshed asked log uris old new (before ++ option_to_list fault) after

-- and where none are asked for nothing is done
abbrev pub IsLookedUp : Asked → Option (List ℕ) → Option (List (List ℕ)) → Server → Server → List Answer → List Answer → Type 0
IsLookedUp asked bytes None old new before after = (new ≡ old) × (after ≡ before)
IsLookedUp asked bytes (Some uris) old new before after = LooksUp asked bytes uris old new before after

-- ---- which documents are looked up

abbrev pub wanted_uris : Wanted → Server → Option (List (List ℕ))
wanted_uris wanted.None server = None
wanted_uris (wanted.Of uri) server = Some (string_bytes uri ∷ [])
wanted_uris wanted.All server = Some (open_uris server)

-- the one that is opened, and each open one when one is saved
abbrev pub uris_noticed : Notice → Server → Option (List (List ℕ))
uris_noticed Exit server = None
uris_noticed (Opened uri version text) server = Some (string_bytes uri ∷ [])
uris_noticed (Changed uri version changes) server = None
uris_noticed Saved server = Some (open_uris server)
uris_noticed (Closed uri) server = None
uris_noticed Malformed server = None
uris_noticed notice.Unknown server = None

abbrev pub uris_of : Message → Server → Option (List (List ℕ))
uris_of NoJson server = None
uris_of (Request id method) server = None
uris_of (Notification notice) server = uris_noticed notice server

-- none where no session runs
abbrev pub looked_up : Message → Server → Option (List (List ℕ))
looked_up message server = if is_running server.phase then uris_of message server else None

-- ---- a message

-- the server takes a message; then findings are looked up that it asks for, in the log of these bytes, where a session runs behind it. If it
-- makes a request, that is answered once, under its id, and nothing else is an answer
pub record AnswersMessage (asked : Asked) (bytes : Option (List ℕ)) (old : Server) (message : Message) (new : Server) (answers : List Answer) : Type 0 where
  pub between : Server
  pub told : Option Answer
  pub step : IsStep old message between told
  pub looks : IsLookedUp asked bytes (looked_up message between) between new (option_to_list told) answers
  pub once : flat_map answered_by answers ≡ asked_by message
  pub phase : new.phase ≡ next_phase old.phase message

-- a body is read as a message, which is answered
pub record AnswersBody (asked : Asked) (bytes : Option (List ℕ)) (old : Server) (body : List ℕ) (new : Server) (answers : List Answer) : Type 0 where
  pub message : Message
  pub is_read : IsReadAs message body
  pub answered : AnswersMessage asked bytes old message new answers

-- or it waits until the log is read anew, and nothing is done before
abbrev pub IsHandled : Asked → Option (List ℕ) → Server → List ℕ → Server → Handled → Type 0
IsHandled asked bytes old body new (Answers answers) = AnswersBody asked bytes old body new answers.items
IsHandled asked bytes old body new (Waits message changed) = IsReadAs message body × (new ≡ old)
