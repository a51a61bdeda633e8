-- What a message does to a server, and what it is answered.
use Rattle.std.specs.Prelude.{◌≡◌, List, [], ◌∷◌, ◌++◌, Option, Some, None}
use Rattle.std.specs.Bool.{MatchBool}
use Rattle.std.specs.Option.{option_to_list}
use Rattle.lsp_server.specs.Session.{is_running, next_agreed, next_phase, requested}
use Rattle.lsp_server.specs.Documents.{document_of}
use Rattle.lsp_server.specs.Told.{AreSame, IsNoticed}
use Rattle.lsp_server.specs.declared.message.Answer.{Answer}
use Rattle.lsp_server.specs.declared.message.Answer.TheVariants.{Error}
use Rattle.lsp_server.specs.declared.message.Code.TheVariants.{ParseError}
use Rattle.lsp_server.specs.declared.message.Message.{Message}
use Rattle.lsp_server.specs.declared.message.Message.TheVariants.{Request, Notification, NoJson}
use Rattle.lsp_server.specs.declared.server.Server.{Server}

-- what becomes of the documents, and what is told: a notification counts while the session runs alone
abbrev pub IsTold : Server → Message → Server → Option Answer → Type 0
IsTold old NoJson new told = AreSame (document_of old) (document_of new) × (told ≡ Some (Error None ParseError))
IsTold old (Request id method) new told = AreSame (document_of old) (document_of new) × (told ≡ Some (requested old.phase id method))
IsTold old (Notification notice) new told =
    MatchBool (is_running old.phase) (IsNoticed old.agreed notice (document_of old) (document_of new) told)
    (AreSame (document_of old) (document_of new) × (told ≡ None))

pub record IsStep (old : Server) (message : Message) (new : Server) (told : Option Answer) : Type 0 where
  pub phase : new.phase ≡ next_phase old.phase message
  pub agreed : new.agreed ≡ next_agreed old.phase old.agreed message
  pub tells : IsTold old message new told

-- messages, one behind another, and all that is answered and told, in their order
abbrev pub AreSteps : Server → List Message → Server → List Answer → Type 0
AreSteps old [] new answers = (new ≡ old) × (answers ≡ [])
AreSteps old (message ∷ rest) new answers =
    (between : Server) × (told : Option Answer) × (later : List Answer)
    × IsStep old message between told × AreSteps between rest new later × (answers ≡ option_to_list told ++ later)
