-- How a session goes: its phases, what requests are answered, and what both sides agree on.
use Rattle.std.specs.Prelude.{Bool, true, false, List, [], ◌∷◌, Option, Some, None}
use Rattle.lsp_server.specs.declared.message.Id.{Id}
use Rattle.lsp_server.specs.declared.message.Agreed.{Agreed}
use Rattle.lsp_server.specs.declared.message.Method.{Method}
use Rattle.lsp_server.specs.declared.message.Method.TheVariants.{Initialize, Shutdown}
use Rattle.lsp_server.specs.declared.message.Method.TheVariants as method
use Rattle.lsp_server.specs.declared.message.Notice.{Notice}
use Rattle.lsp_server.specs.declared.message.Notice.TheVariants.{Exit, Opened, Changed, Saved, Closed, Malformed}
use Rattle.lsp_server.specs.declared.message.Notice.TheVariants as notice
use Rattle.lsp_server.specs.declared.message.Message.{Message}
use Rattle.lsp_server.specs.declared.message.Message.TheVariants.{Request, Notification, NoJson}
use Rattle.lsp_server.specs.declared.message.Answer.{Answer}
use Rattle.lsp_server.specs.declared.message.Answer.TheVariants.{Capabilities, Null, Error, Published, Refused, Logged}
use Rattle.lsp_server.specs.declared.message.Code.TheVariants.{InvalidRequest, MethodNotFound, NotInitialized}
use Rattle.lsp_server.specs.declared.server.Phase.{Phase}
use Rattle.lsp_server.specs.declared.server.Phase.TheVariants.{New, Running, ShutDown, Exited}

abbrev pub is_running : Phase → Bool
is_running New = false
is_running Running = true
is_running ShutDown = false
is_running (Exited well) = false

abbrev pub is_shut_down : Phase → Bool
is_shut_down New = false
is_shut_down Running = false
is_shut_down ShutDown = true
is_shut_down (Exited well) = false

-- `exit` ends a session at any time, well behind `shutdown` alone
abbrev pub notice_phase : Phase → Notice → Phase
notice_phase phase Exit = Exited (is_shut_down phase)
notice_phase phase (Opened uri version text) = phase
notice_phase phase (Changed uri version changes) = phase
notice_phase phase Saved = phase
notice_phase phase (Closed uri) = phase
notice_phase phase Malformed = phase
notice_phase phase notice.Unknown = phase

-- a session begins once, and is shut down while it runs
abbrev pub request_phase : Phase → Method → Phase
request_phase New (Initialize wanted) = Running
request_phase New Shutdown = New
request_phase New method.Unknown = New
request_phase Running (Initialize wanted) = Running
request_phase Running Shutdown = ShutDown
request_phase Running method.Unknown = Running
request_phase ShutDown asks = ShutDown
request_phase (Exited well) asks = Exited well

abbrev pub next_phase : Phase → Message → Phase
next_phase phase NoJson = phase
next_phase phase (Request id method) = request_phase phase method
next_phase phase (Notification notice) = notice_phase phase notice

-- what is agreed on when a session begins stays
abbrev pub begun : Phase → Agreed → Method → Agreed
begun New agreed (Initialize wanted) = record { encoding = wanted.encoding; related = wanted.related }
begun New agreed Shutdown = agreed
begun New agreed method.Unknown = agreed
begun Running agreed asks = agreed
begun ShutDown agreed asks = agreed
begun (Exited well) agreed asks = agreed

abbrev pub next_agreed : Phase → Agreed → Message → Agreed
next_agreed phase agreed NoJson = agreed
next_agreed phase agreed (Request id method) = begun phase agreed method
next_agreed phase agreed (Notification notice) = agreed

-- what a request is answered
abbrev pub requested : Phase → Id → Method → Answer
requested New id (Initialize wanted) = Capabilities id wanted
requested New id Shutdown = Error (Some id) NotInitialized
requested New id method.Unknown = Error (Some id) NotInitialized
requested Running id (Initialize wanted) = Error (Some id) InvalidRequest
requested Running id Shutdown = Null id
requested Running id method.Unknown = Error (Some id) MethodNotFound
requested ShutDown id asks = Error (Some id) InvalidRequest
requested (Exited well) id asks = Error (Some id) InvalidRequest

-- the requests that a message makes, and those that an answer answers
abbrev pub asked : Message → List Id
asked NoJson = []
asked (Request id method) = id ∷ []
asked (Notification notice) = []

abbrev pub answered_by : Answer → List Id
answered_by (Capabilities id wanted) = id ∷ []
answered_by (Null id) = id ∷ []
answered_by (Error None code) = []
answered_by (Error (Some id) code) = id ∷ []
answered_by (Published params) = []
answered_by (Refused why) = []
answered_by (Logged text) = []

abbrev pub answered : Option Answer → List Id
answered None = []
answered (Some answer) = answered_by answer

-- after messages, one behind another
abbrev pub phase_after : Phase → List Message → Phase
phase_after phase [] = phase
phase_after phase (message ∷ rest) = phase_after (next_phase phase message) rest

abbrev pub IsExit : Phase → Type 0
IsExit New = ⊥
IsExit Running = ⊥
IsExit ShutDown = ⊥
IsExit (Exited well) = Unit {0}
