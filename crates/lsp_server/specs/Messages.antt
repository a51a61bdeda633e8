-- The texts of a diagnostic.
use Rattle.std.specs.Prelude.{ℕ, ◌+◌, List, [], ◌++◌, Option, Some, None, codes, decimal, unwrap_or, if◌then◌else◌}
use Rattle.std.specs.List.{flat_map}
use Rattle.oxc_span.specs.Label.{Label}
use Rattle.oxc_protocol.specs.Parts.{OxcParts}
use Rattle.text_places.specs.declared.place.Place.{Place}
use Rattle.lsp_server.specs.Seen.{Seen, client_place, others}

-- what a label says: its text, or the diagnostic's message
abbrev pub said : List ℕ → Label → List ℕ
said message label = unwrap_or label.text message

-- a part of the message, on lines of its own
unfoldable pub part_text : Option (List ℕ) → List ℕ
part_text None = []
part_text (Some text) = codes "\n" ++ text

-- a place as people read it, both numbers from 1
unfoldable pub place_text : Place → List ℕ
place_text place = codes "\n" ++ decimal (place.line + 1) ++ codes ":" ++ decimal (place.unit + 1) ++ codes ": "

-- a label as a line: where it starts, and what it says
unfoldable pub label_line : Seen → List ℕ → Label → List ℕ
label_line file message label = place_text (client_place file label.offset) ++ said message label

-- the lines of labels
abbrev pub label_lines : Seen → List ℕ → List Label → List ℕ
label_lines file message labels = flat_map (label_line file message) labels

-- the lines of the labels that the client can't show
abbrev pub more_lines : Seen → OxcParts → List ℕ
more_lines file it = if file.related then [] else label_lines file it.message (others it.labels)

-- what a client is told: the message, the help, the note, and the labels that it can't show
unfoldable pub message_text : Seen → OxcParts → List ℕ
message_text file it = it.message ++ part_text it.help ++ part_text it.note ++ more_lines file it
