-- What a client's JSON means.
use Rattle.std.specs.Prelude.{ℕ, ◌^◌, ◌-◌, min, ℤ, pos, negsuc, int_le, ◌&&◌, List, [], ◌∷◌, map, Bool, false, Option, Some, None, option_map, option_and_then, unwrap_or, is_some, codes, string_bytes, if◌then◌else◌}
use Rattle.std.specs.Option.{option_or}
use Rattle.std.specs.Str.{bytes_eq}
use Rattle.serde_json.specs.Data.{Data, Items, no_items, item}
use Rattle.serde_json.specs.Find.{get, as_array, as_bool, as_number, as_str, as_i64, as_u64}
use Rattle.text_places.specs.declared.encoding.Encoding.{Encoding}
use Rattle.text_places.specs.declared.encoding.Encoding.TheVariants.{Utf8, Utf16, Utf32}
use Rattle.text_places.specs.declared.place.Place.{Place}
use Rattle.client_text.specs.declared.change.Change.{Change}
use Rattle.lsp_server.specs.declared.message.Id.{Id}
use Rattle.lsp_server.specs.declared.message.Id.TheVariants.{Number, Text}
use Rattle.lsp_server.specs.declared.message.Wanted.{Wanted}
use Rattle.lsp_server.specs.declared.message.Method.{Method}
use Rattle.lsp_server.specs.declared.message.Method.TheVariants.{Initialize, Shutdown}
use Rattle.lsp_server.specs.declared.message.Method.TheVariants as method
use Rattle.lsp_server.specs.declared.message.Notice.{Notice}
use Rattle.lsp_server.specs.declared.message.Notice.TheVariants.{Exit, Opened, Changed, Saved, Closed, Malformed}
use Rattle.lsp_server.specs.declared.message.Notice.TheVariants as notice
use Rattle.lsp_server.specs.declared.message.Message.{Message}
use Rattle.lsp_server.specs.declared.message.Message.TheVariants.{Request, Notification, NoJson}

-- ---- messages, with their texts as bytes

-- what a request goes by
pub data Name : Type 0 where
  numbered : ℤ → Name
  named : List ℕ → Name

abbrev pub name_of : Id → Name
name_of (Number n) = numbered n
name_of (Text text) = named (string_bytes text)

-- a part of a text, or the whole, gives way to a text
pub record ChangeSaid : Type 0 where
  pub range : Option (Place × Place)
  pub text : List ℕ

abbrev pub change_said : Change → ChangeSaid
change_said change = record { range = change.range; text = string_bytes change.text }

-- what a notification tells
pub data Event : Type 0 where
  ends : Event
  opens : List ℕ → ℤ → List ℕ → Event
  changes : List ℕ → ℤ → List ChangeSaid → Event
  saves : Event
  closes : List ℕ → Event
  ill_formed : Event
  nothing : Event

abbrev pub event_of : Notice → Event
event_of Exit = ends
event_of (Opened uri version text) = opens (string_bytes uri) version (string_bytes text)
event_of (Changed uri version list) = changes (string_bytes uri) version (map change_said list.items)
event_of Saved = saves
event_of (Closed uri) = closes (string_bytes uri)
event_of Malformed = ill_formed
event_of notice.Unknown = nothing

-- a message that is JSON
pub data Said : Type 0 where
  asks : Name → Method → Said
  tells : Event → Said

abbrev pub said_by : Message → Option Said
said_by NoJson = None
said_by (Request id method) = Some (asks (name_of id) method)
said_by (Notification notice) = Some (tells (event_of notice))

-- ---- what stands under keys

-- a member of what may not be there
abbrev pub under : List ℕ → Option Data → Option Data
under key it = option_and_then (get key) it

abbrev pub text_under : List ℕ → Option Data → Option (List ℕ)
text_under key it = option_and_then as_str (under key it)

abbrev pub truth_under : List ℕ → Option Data → Option Bool
truth_under key it = option_and_then as_bool (under key it)

-- a whole number from 0; one that needs more than 32 bits is as good as the largest
abbrev pub count_under : List ℕ → Option Data → Option ℕ
count_under key it = option_map (λ n. min n (2 ^ 32 - 1)) (option_and_then as_u64 (option_and_then as_number (under key it)))

-- the number of a version where it has 32 bits, and 0 where it hasn't
abbrev pub small_version : ℤ → ℤ
small_version n = if int_le (negsuc (2 ^ 31 - 1)) n && int_le n (pos (2 ^ 31 - 1)) then n else pos 0

abbrev pub version_under : Option Data → ℤ
version_under it = small_version (unwrap_or (option_and_then as_i64 (option_and_then as_number (under (codes "version") it))) (pos 0))

-- ---- what a client can do

abbrev pub encoding_named : List ℕ → Option Encoding
encoding_named name =
    if bytes_eq name (codes "utf-8") then Some Utf8
    else if bytes_eq name (codes "utf-16") then Some Utf16
    else if bytes_eq name (codes "utf-32") then Some Utf32
    else None

abbrev pub encoding_in : Data → Option Encoding
encoding_in value = option_and_then encoding_named (as_str value)

-- the first of several that is known
abbrev pub first_known : Items → Option Encoding
first_known no_items = None
first_known (item value rest) = option_or (encoding_in value) (first_known rest)

abbrev pub first_under : List ℕ → Option Data → Option Encoding
first_under key it = option_and_then first_known (option_and_then as_array (under key it))

abbrev pub shows_related : Option Data → Bool
shows_related it =
    unwrap_or (truth_under (codes "relatedInformation") (under (codes "publishDiagnostics") (under (codes "textDocument") it))) false

-- the newer key goes before the older; a client that names no encoding that is known counts UTF-16 units
abbrev pub wanted_by : Option Encoding → Option Encoding → Bool → Wanted
wanted_by (Some encoding) older related = record { encoding = encoding; is_older = false; related = related }
wanted_by None older related = record { encoding = unwrap_or older Utf16; is_older = is_some older; related = related }

unfoldable pub wanted_of : Option Data → Wanted
wanted_of it =
    wanted_by (first_under (codes "positionEncodings") (under (codes "general") it)) (first_under (codes "offsetEncoding") it)
    (shows_related it)

unfoldable pub method_of : List ℕ → Option Data → Method
method_of name params =
    if bytes_eq name (codes "initialize") then Initialize (wanted_of (under (codes "capabilities") params))
    else if bytes_eq name (codes "shutdown") then Shutdown
    else method.Unknown

-- ---- changes

unfoldable pub place_in : Option Data → Option Place
place_in it =
    option_and_then (λ line. option_map (λ unit. record { line = line; unit = unit }) (count_under (codes "character") it))
    (count_under (codes "line") it)

unfoldable pub range_in : Data → Option (Place × Place)
range_in it =
    option_and_then (λ start. option_map (λ end. (start, end)) (place_in (get (codes "end") it))) (place_in (get (codes "start") it))

-- the part that gives way: the whole where no range is told, and none where that isn't of its form
abbrev pub part_in : Option Data → Option (Option (Place × Place))
part_in None = Some None
part_in (Some it) = option_map (λ range. Some range) (range_in it)

unfoldable pub change_in : Data → Option ChangeSaid
change_in it =
    option_and_then (λ text. option_map (λ range. record { range = range; text = text }) (part_in (get (codes "range") it)))
    (text_under (codes "text") (Some it))

-- all of a list, where each is of its form
abbrev pub changes_in : Items → Option (List ChangeSaid)
changes_in no_items = Some []
changes_in (item value rest) = option_and_then (λ first. option_map (λ others. first ∷ others) (changes_in rest)) (change_in value)

-- ---- notifications

abbrev pub opened_by : Option (List ℕ) → Option (List ℕ) → ℤ → Event
opened_by None text version = nothing
opened_by (Some uri) None version = nothing
opened_by (Some uri) (Some text) version = opens uri version text

unfoldable pub opened_in : Option Data → Event
opened_in document = opened_by (text_under (codes "uri") document) (text_under (codes "text") document) (version_under document)

abbrev pub changed_by : Option (List ℕ) → Option (List ChangeSaid) → ℤ → Event
changed_by None list version = ill_formed
changed_by (Some uri) None version = ill_formed
changed_by (Some uri) (Some list) version = changes uri version list

abbrev pub changes_under : Option Data → Option (List ChangeSaid)
changes_under params = option_and_then changes_in (option_and_then as_array (under (codes "contentChanges") params))

unfoldable pub changed_in : Option Data → Option Data → Event
changed_in document params = changed_by (text_under (codes "uri") document) (changes_under params) (version_under document)

abbrev pub closed_by : Option (List ℕ) → Event
closed_by None = nothing
closed_by (Some uri) = closes uri

unfoldable pub event_in : List ℕ → Option Data → Event
event_in method params =
    if bytes_eq method (codes "exit") then ends
    else if bytes_eq method (codes "textDocument/didOpen") then opened_in (under (codes "textDocument") params)
    else if bytes_eq method (codes "textDocument/didChange") then changed_in (under (codes "textDocument") params) params
    else if bytes_eq method (codes "textDocument/didSave") then saves
    else if bytes_eq method (codes "textDocument/didClose") then closed_by (text_under (codes "uri") (under (codes "textDocument") params))
    else nothing

-- ---- messages

-- an integer of 64 bits or a text
abbrev pub name_or : Option ℤ → Option (List ℕ) → Option Name
name_or (Some n) text = Some (numbered n)
name_or None text = option_map (λ bytes. named bytes) text

abbrev pub name_in : Data → Option Name
name_in it = name_or (option_and_then as_i64 (as_number it)) (as_str it)

abbrev pub asked_by : Option Name → List ℕ → Option Data → Said
asked_by None method params = tells nothing
asked_by (Some name) method params = asks name (method_of method params)

-- with an id it is a request, and without one a notification
abbrev pub said_as : List ℕ → Option Data → Option Data → Said
said_as method None params = tells (event_in method params)
said_as method (Some id) params = asked_by (name_in id) method params

abbrev pub said_with : Option (List ℕ) → Option Data → Option Data → Said
said_with None id params = tells nothing
said_with (Some method) id params = said_as method id params

unfoldable pub said_in : Data → Said
said_in it = said_with (text_under (codes "method") (Some it)) (get (codes "id") it) (get (codes "params") it)
