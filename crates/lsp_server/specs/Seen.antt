-- A file as a client sees it, and where a client sees offsets.
use Rattle.std.specs.Prelude.{ℕ, ℤ, Bool, List, Option, All, unwrap_or}
use Rattle.std.specs.List.{position, remove, slice_get}
use Rattle.text_places.specs.Places.{place_at, client_offset}
use Rattle.text_places.specs.declared.encoding.Encoding.{Encoding}
use Rattle.text_places.specs.declared.place.Place.{Place}
use Rattle.oxc_span.specs.Label.{Label}
use Rattle.oxc_protocol.specs.Parts.{OxcParts}
use Rattle.found_reports.specs.Found.{StandsIn}

-- its URI, the version of its text, the units in which the client counts, whether the client shows related information, and the text
pub record Seen : Type 0 where
  pub uri : List ℕ
  pub version : Option ℤ
  pub encoding : Encoding
  pub related : Bool
  pub text : List ℕ

-- where the client sees an offset: never between the CR and the LF of a break
unfoldable pub client_place : Seen → ℕ → Place
client_place file offset = place_at file.encoding file.text (client_offset file.text offset)

-- the labels of a diagnostic stand in a text: they end within it, and start and end between characters
abbrev pub StandIn : List ℕ → OxcParts → Type 0
StandIn text diagnostic = All (StandsIn text) diagnostic.labels

-- the place of the label that a diagnostic is about: the first primary one, else the first
abbrev pub head_place : List Label → ℕ
head_place labels = unwrap_or (position (λ label. label.primary) labels) 0

-- that label, if there is one
abbrev pub head_label : List Label → Option Label
head_label labels = slice_get labels (head_place labels)

-- all labels but that one, in their order
abbrev pub others : List Label → List Label
others labels = remove labels (head_place labels)
