-- What goes to the client, as JSON values.
use Rattle.std.specs.Prelude.{ℕ, ℤ, negsuc, List, ◌++◌, Option, Some, None, true, codes, decimal, string_bytes, if◌then◌else◌}
use Rattle.serde_json.specs.Data.{Data, null, boolean, number, unsigned, string, object, no_members, put}
use Rattle.serde_json.specs.Find.{of_integer}
use Rattle.serde_json.specs.View.{view}
use Rattle.text_places.specs.declared.encoding.Encoding.{Encoding}
use Rattle.text_places.specs.declared.encoding.Encoding.TheVariants.{Utf8, Utf16, Utf32}
use Rattle.client_text.specs.declared.change.Fault.{Fault}
use Rattle.client_text.specs.declared.change.Fault.TheVariants.{Reversed, TooLong, OutOfMemory}
use Rattle.lsp_server.specs.declared.message.Id.{Id}
use Rattle.lsp_server.specs.declared.message.Id.TheVariants.{Number, Text}
use Rattle.lsp_server.specs.declared.message.Wanted.{Wanted}
use Rattle.lsp_server.specs.declared.message.Code.{Code}
use Rattle.lsp_server.specs.declared.message.Code.TheVariants.{ParseError, InvalidRequest, MethodNotFound, NotInitialized}
use Rattle.lsp_server.specs.declared.message.Answer.{Answer}
use Rattle.lsp_server.specs.declared.message.Answer.TheVariants.{Capabilities, Null, Error, Published, Logged}
use Rattle.lsp_server.specs.declared.message.Answer.TheVariants as answer
use Rattle.lsp_server.specs.declared.message.Refused.{Refused}
use Rattle.lsp_server.specs.declared.message.Refused.TheVariants.{NotOpen, Malformed, Faulty}
use Rattle.lsp_server.specs.declared.message.Refused.TheVariants as why

abbrev pub id_value : Id → Data
id_value (Number n) = number (of_integer n)
id_value (Text text) = string (string_bytes text)

-- an object of the protocol's version
abbrev pub version_value : Data
version_value = string (codes "2.0")

-- what a request is answered
abbrev pub answered_value : Id → Data → Data
answered_value id result =
    object (put (codes "result") result (put (codes "jsonrpc") version_value (put (codes "id") (id_value id) no_members)))

-- ---- what the server can do

abbrev pub encoding_name : Encoding → List ℕ
encoding_name Utf8 = codes "utf-8"
encoding_name Utf16 = codes "utf-16"
encoding_name Utf32 = codes "utf-32"

-- documents are opened, changed in parts (2), saved and closed
abbrev pub sync_value : Data
sync_value =
    object (put (codes "save") (boolean true) (put (codes "openClose") (boolean true)
    (put (codes "change") (number (unsigned 2)) no_members)))

abbrev pub info_value : Data
info_value = object (put (codes "name") (string (codes "girzohal_lsp")) no_members)

-- by the key that the client used
abbrev pub capabilities_value : Wanted → Data
capabilities_value wanted =
    if wanted.is_older
    then object (put (codes "serverInfo") info_value (put (codes "offsetEncoding") (string (encoding_name wanted.encoding))
    (put (codes "capabilities") (object (put (codes "textDocumentSync") sync_value no_members)) no_members)))
    else object (put (codes "serverInfo") info_value
    (put (codes "capabilities") (object (put (codes "textDocumentSync") sync_value
    (put (codes "positionEncoding") (string (encoding_name wanted.encoding)) no_members))) no_members))

-- ---- errors

abbrev pub code_number : Code → ℤ
code_number ParseError = negsuc 32699
code_number InvalidRequest = negsuc 32599
code_number MethodNotFound = negsuc 32600
code_number NotInitialized = negsuc 32001

abbrev pub code_text : Code → List ℕ
code_text ParseError = codes "no JSON"
code_text InvalidRequest = codes "not at this time"
code_text MethodNotFound = codes "unknown method"
code_text NotInitialized = codes "the session hasn't begun"

abbrev pub error_value : Data → Code → Data
error_value id code =
    object (put (codes "jsonrpc") version_value (put (codes "id") id
    (put (codes "error") (object (put (codes "message") (string (code_text code))
    (put (codes "code") (number (of_integer (code_number code))) no_members))) no_members)))

abbrev pub some_id : Option Id → Data
some_id None = null
some_id (Some id) = id_value id

-- ---- notifications

abbrev pub notice_value : List ℕ → Data → Data
notice_value method params =
    object (put (codes "params") params (put (codes "method") (string method) (put (codes "jsonrpc") version_value no_members)))

-- a warning (2) in the client's log
abbrev pub log_value : List ℕ → Data
log_value text =
    notice_value (codes "window/logMessage")
    (object (put (codes "type") (number (unsigned 2)) (put (codes "message") (string text) no_members)))

abbrev pub fault_text : Fault → List ℕ
fault_text Reversed = codes "ends before it starts"
fault_text TooLong = codes "makes the text too long"
fault_text OutOfMemory = codes "wants memory"

-- why a notification was left out; changes are counted from 0
abbrev pub refused_text : Refused → List ℕ
refused_text NotOpen = codes "didChange left out: no open document"
refused_text why.TooLong = codes "didOpen left out: the text is too long"
refused_text Malformed = codes "didChange left out: not of its form"
refused_text (Faulty refusal) =
    codes "didChange left out: contentChanges[" ++ decimal refusal.change ++ codes "] " ++ fault_text refusal.fault

abbrev pub answer_value : Answer → Data
answer_value (Capabilities id wanted) = answered_value id (capabilities_value wanted)
answer_value (Null id) = answered_value id null
answer_value (Error id code) = error_value (some_id id) code
answer_value (Published params) = notice_value (codes "textDocument/publishDiagnostics") (view params.value)
answer_value (answer.Refused refused) = log_value (refused_text refused)
answer_value (Logged text) = log_value (string_bytes text)
