-- Diagnostics as JSON values.
use Rattle.std.specs.Prelude.{ℕ, ℤ, List, length, nat_lt, map, Option, Some, None, option_map, codes, if◌then◌else◌}
use Rattle.serde_json.specs.Data.{Data, number, unsigned, string, array, object, Members, no_members, put}
use Rattle.serde_json.specs.Find.{of_integer}
use Rattle.serde_json.specs.View.{items_of}
use Rattle.oxc_span.specs.Label.{Label, label_end}
use Rattle.oxc_protocol.specs.Parts.{OxcParts}
use Rattle.oxc_protocol.specs.declared.protocol.Severity.{Severity}
use Rattle.oxc_protocol.specs.declared.protocol.Severity.TheVariants.{Advice, Warning, Error}
use Rattle.text_places.specs.declared.place.Place.{Place}
use Rattle.lsp_server.specs.Seen.{Seen, client_place, head_label, others}
use Rattle.lsp_server.specs.Messages.{said, message_text}

abbrev pub whole : ℕ → Data
whole n = number (unsigned n)

abbrev pub text_value : Option (List ℕ) → Option Data
text_value text = option_map (λ bytes. string bytes) text

-- the members with one more, where there is a value for it
abbrev pub put_some : List ℕ → Option Data → Members → Members
put_some key None members = members
put_some key (Some value) members = put key value members

-- ---- ranges

abbrev pub place_value : Place → Data
place_value place = object (put (codes "character") (whole place.unit) (put (codes "line") (whole place.line) no_members))

unfoldable pub range_value : Place → Place → Data
range_value start end = object (put (codes "start") (place_value start) (put (codes "end") (place_value end) no_members))

-- where the client sees a label
unfoldable pub label_range : Seen → Label → Data
label_range file label = range_value (client_place file label.offset) (client_place file (label_end label))

-- the range of a label, and the text's beginning without one
abbrev pub some_range : Seen → Option Label → Data
some_range file None = range_value (record { line = 0; unit = 0 }) (record { line = 0; unit = 0 })
some_range file (Some label) = label_range file label

-- the range of the head label
unfoldable pub head_range : Seen → List Label → Data
head_range file labels = some_range file (head_label labels)

-- ---- related information

abbrev pub location_value : Seen → Label → Data
location_value file label = object (put (codes "range") (label_range file label) (put (codes "uri") (string file.uri) no_members))

unfoldable pub related_value : Seen → List ℕ → Label → Data
related_value file message label =
    object (put (codes "message") (string (said message label)) (put (codes "location") (location_value file label) no_members))

abbrev pub some_related : Seen → List ℕ → List Label → Option Data
some_related file message labels =
    if nat_lt 0 (length labels) then Some (array (items_of (map (related_value file message) labels))) else None

-- the other labels, where the client shows them and there is one
unfoldable pub related_values : Seen → OxcParts → Option Data
related_values file it = if file.related then some_related file it.message (others it.labels) else None

-- ---- diagnostics

-- 1 an error, 2 a warning, 3 information
abbrev pub severity_number : Severity → ℕ
severity_number Error = 1
severity_number Warning = 2
severity_number Advice = 3

-- a link to what a code means
abbrev pub link_value : List ℕ → Data
link_value url = object (put (codes "href") (string url) no_members)

abbrev pub some_link : Option (List ℕ) → Option Data
some_link url = option_map link_value url

-- the members that a diagnostic may lack
unfoldable pub more_members : Seen → OxcParts → Members → Members
more_members file it members =
    put_some (codes "relatedInformation") (related_values file it)
    (put_some (codes "codeDescription") (some_link it.url)
    (put_some (codes "code") (text_value it.code.number)
    (put_some (codes "source") (text_value it.code.scope) members)))

-- the members that each diagnostic has
unfoldable pub first_members : Data → ℕ → List ℕ → Members
first_members range severity message =
    put (codes "message") (string message) (put (codes "severity") (whole severity) (put (codes "range") range no_members))

-- a diagnostic: its range, severity and message, and what else it has
unfoldable pub diagnostic_value : Seen → OxcParts → Data
diagnostic_value file it =
    object (more_members file it
    (first_members (head_range file it.labels) (severity_number it.severity) (message_text file it)))

-- ---- the parameters

abbrev pub version_value : ℤ → Data
version_value version = number (of_integer version)

unfoldable pub some_version : Option ℤ → Option Data
some_version version = option_map version_value version

-- what a client is told of a file: all its diagnostics, in their order
unfoldable pub published_value : Seen → List OxcParts → Data
published_value file diagnostics =
    object (put_some (codes "version") (some_version file.version)
    (put (codes "uri") (string file.uri)
    (put (codes "diagnostics") (array (items_of (map (diagnostic_value file) diagnostics))) no_members)))
